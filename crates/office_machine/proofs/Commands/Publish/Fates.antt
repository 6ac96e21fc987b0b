-- A publication keeps the fates.
use Rattle.office_machine.proofs.Names.{◌≡◌, ℕ, ◌⊎◌, Bool, true, false, cond, List, [], ◌∷◌, ◌++◌, map, Option, Some, None, option_map, is_some, max, refl, sym, ap, ◌∙◌, subst, inl, inr, AllByRecursion, IsTotalOrder, nat_list_cmp_total, is_eq, eq_by_cmp, Ordering, id_cmp, NewLot, NewNotice, Caller, Publish, Refusal, LateWithdrawal, Forfeits, row_at, row_put, LotRow, LotState, NoticeState, Put, reserving_line, reserving_line_put, lot_row, new_lot_put, notice_row, notice_put, publish_parts, late_puts, publish_puts, publish_rows, publish_tests, Tables, lot_cmp, line_key, lot_key, notice_key, put_notice, envelope_at, seal_at, security_at, lot_at, notice_at, after_puts, Given, Readings, lots_total, same_key, lots_exact, ids_exact, equal_keys, row_at-row_put}
use Rattle.office_commands.specs.declared.notice.LateWithdrawal.TheVariants.{Refused}
use Rattle.office_base.specs.declared.records.LotState.TheVariants as lot
use Rattle.office_base.specs.declared.records.NoticeState.TheVariants as notice
use Rattle.office_base.specs.declared.puts.Put.TheVariants as puts
use Rattle.office_machine.proofs.Passed.{none_holds}
use Rattle.office_machine.proofs.Rows.RowsChanged.{rows_put}
use Rattle.office_machine.proofs.FateLaws.Added.{sound_published}
use Rattle.office_machine.proofs.FateLaws.Seen.{seen, lot_state, notice_state, after-append, after_lines, after_lots, IsQuiet}
use Rattle.office_machine.proofs.FateLaws.FatesHold.{FatesStand, HaveFates, Keeps, given, tenders_same, named_same}
use Rattle.office_machine.proofs.FateLaws.QuietFates.{kept_after}

-- a property of each row that is put at a key, and of the earlier row if none is put there, is a property of the found row
module _ {K X : Type 0} {R : K → K → Ordering} (o : IsTotalOrder R) (key : X → K) where
  one_put : (P : Option X → Type 0) (r : X) (found : Option X) (b : Bool) → (b ≡ true → P (Some r)) → P found → P (cond b (Some r) found)
  one_put P r found true here there = here refl
  one_put P r found false here there = there

  pub found_after : (P : Option X → Type 0) (q : K) (rs xs : List X) → AllByRecursion (λ r. eq_by_cmp R q (key r) ≡ true → P (Some r)) rs
      → P (row_at R key xs q) → P (row_at R key (rows_put R key xs rs) q)
  found_after P q [] xs here there = there
  found_after P q (r ∷ rs) xs here there =
      found_after P q rs (row_put R key xs r) here.1
      (subst P (sym (row_at-row_put o key xs r q)) (one_put P r (row_at R key xs q) (eq_by_cmp R q (key r)) here.0 there))

is_none : {X : Type 0} (o : Option X) → is_some o ≡ false → o ≡ None
is_none None h = refl
is_none (Some y) h = cc

module _ (readings : Readings) (name : List ℕ) (content : NewNotice) (xs : List Given) (t : Tables) (m : ℕ) (caller : Caller) (kept : FatesStand readings xs t)
    (absent : is_some (notice_at name t) ≡ false) where
  abbrev T : ℕ
  T = max m t.clock.moment

  abbrev x : Given
  x = given t m caller (Publish name content)

  abbrev last_puts : List Put
  last_puts = notice_put T name content ∷ puts.Clock (record t.clock { moment = T }) ∷ []

  abbrev ps : List Put
  ps = publish_parts t.clock T name t.lines content

  abbrev new_lots : List LotRow
  new_lots = map (lot_row name) content.lots

  abbrev after : Tables
  after = record t {
    lines = rows_put id_cmp line_key t.lines (map (reserving_line t.lines content.lots) content.lots);
    lots = rows_put lot_cmp lot_key t.lots new_lots;
    notices = put_notice t.notices (notice_row T name content);
    clock = record t.clock { moment = T };
  }

  after_is : after_puts ps t ≡ after
  after_is =
      after-append (map (reserving_line_put t.lines content.lots) content.lots ++ map (new_lot_put name) content.lots) last_puts t
      ∙ ap (after_puts last_puts)
      (after-append (map (reserving_line_put t.lines content.lots) content.lots) (map (new_lot_put name) content.lots) t
      ∙ ap (after_puts (map (new_lot_put name) content.lots)) (after_lines (reserving_line t.lines content.lots) content.lots t)
      ∙ after_lots (lot_row name) content.lots (record t { lines = rows_put id_cmp line_key t.lines (map (reserving_line t.lines content.lots) content.lots) }))

  abbrev N : List ℕ → Option NoticeState
  N q = option_map notice_state (notice_at q after)

  abbrev L : List ℕ × List ℕ → Option LotState
  L k = option_map lot_state (lot_at k after)

  no_notice : (seen t).notice_at name ≡ None
  no_notice = ap (option_map notice_state) (is_none (notice_at name t) absent)

  N_is : (q : List ℕ) → N q ≡ option_map notice_state (cond (eq_by_cmp id_cmp q name) (Some (notice_row T name content)) (notice_at q t))
  N_is q = ap (option_map notice_state) (row_at-row_put nat_list_cmp_total notice_key t.notices (notice_row T name content) q)

  here : N name ≡ Some notice.Receiving
  here =
      N_is name
      ∙ ap (λ b. option_map notice_state (cond b (Some (notice_row T name content)) (notice_at name t))) (ap is_eq (same_key nat_list_cmp_total name))

  elsewhere_by : (q : List ℕ) (b : Bool) → eq_by_cmp id_cmp q name ≡ b
      → (q ≡ name) ⊎ (option_map notice_state (cond b (Some (notice_row T name content)) (notice_at q t)) ≡ (seen t).notice_at q)
  elsewhere_by q true e = inl (equal_keys ids_exact q name e)
  elsewhere_by q false e = inr refl

  elsewhere : (q : List ℕ) → (q ≡ name) ⊎ (N q ≡ (seen t).notice_at q)
  elsewhere q = subst (λ o. (q ≡ name) ⊎ (o ≡ (seen t).notice_at q)) (sym (N_is q)) (elsewhere_by q (eq_by_cmp id_cmp q name) refl)

  undecided_each : (k : List ℕ × List ℕ) (l : LotState) (lots : List NewLot)
      → AllByRecursion (λ (r : LotRow). eq_by_cmp lot_cmp k (lot_key r) ≡ true → option_map lot_state (Some r) ≡ Some l → l ≡ lot.Undecided) (map (lot_row name) lots)
  undecided_each k l [] = tt
  undecided_each k l (new ∷ lots) = ((λ e h. let is : Some lot.Undecided ≡ Some l = h in cc), undecided_each k l lots)

  no_lot : (k : List ℕ × List ℕ) → k.0 ≡ name → (o : Option LotState) → (seen t).lot_at k ≡ o → o ≡ None
  no_lot k e None at = refl
  no_lot k e (Some l) at =
      let there = kept.sound.homed k l at in
      let no : false ≡ true = sym (ap (λ n. is_some ((seen t).notice_at n)) e ∙ ap is_some no_notice) ∙ there in cc

  lots_here : (k : List ℕ × List ℕ) (l : LotState) → k.0 ≡ name → L k ≡ Some l → l ≡ lot.Undecided
  lots_here k l e =
      found_after lots_total lot_key (λ o. option_map lot_state o ≡ Some l → l ≡ lot.Undecided) k new_lots t.lots (undecided_each k l content.lots)
      (λ h. let no : None ≡ Some l = sym (no_lot k e ((seen t).lot_at k) refl) ∙ h in cc)

  lots_each : (k : List ℕ × List ℕ) (lots : List NewLot)
      → AllByRecursion (λ (r : LotRow). eq_by_cmp lot_cmp k (lot_key r) ≡ true → (k.0 ≡ name) ⊎ (option_map lot_state (Some r) ≡ (seen t).lot_at k)) (map (lot_row name) lots)
  lots_each k [] = tt
  lots_each k (new ∷ lots) = ((λ e. inl (ap (λ (k : List ℕ × List ℕ). k.0) (equal_keys lots_exact k (name, new.id) e))), lots_each k lots)

  lots_elsewhere : (k : List ℕ × List ℕ) → (k.0 ≡ name) ⊎ (L k ≡ (seen t).lot_at k)
  lots_elsewhere k =
      found_after lots_total lot_key
      (λ o. (k.0 ≡ name) ⊎ (option_map lot_state o ≡ (seen t).lot_at k)) k new_lots t.lots (lots_each k content.lots) (inr refl)

  after_kept : HaveFates readings (x ∷ xs) after
  after_kept = record {
    sound = sound_published name N L (seen t) kept.sound no_notice here elsewhere lots_here lots_elsewhere;
    tenders =
        tenders_same readings.digest xs x refl t.clock.receipts (λ r. envelope_at r t) (λ r. envelope_at r t) (λ r. seal_at r t)
        (λ r. seal_at r t) kept.tenders (λ r. refl) (λ r. refl) (λ r. refl);
    named = named_same readings.digest xs x refl (λ s. security_at s t) (λ s. security_at s t) kept.named (λ s. refl) (λ s. refl);
  }

  late_quiet : (late : LateWithdrawal) (u : Tables) → AllByRecursion (IsQuiet (seen u) u.clock.receipts) (late_puts name late)
  late_quiet Refused u = tt
  late_quiet Forfeits u = (tt, tt)

  published_kept : HaveFates readings (x ∷ xs) (after_puts (publish_puts (record { notice = None; lines = t.lines; clock = t.clock }) T name content) t)
  published_kept =
      subst (HaveFates readings (x ∷ xs)) (sym (after-append ps (late_puts name content.late_withdrawal) t))
      (kept_after readings (x ∷ xs) (late_puts name content.late_withdrawal) (after_puts ps t) (late_quiet content.late_withdrawal (after_puts ps t))
      (subst (HaveFates readings (x ∷ xs)) (sym after_is) after_kept))

pub publish_keeps : (readings : Readings) (notice : List ℕ) (content : NewNotice) → Keeps readings (Publish notice content)
publish_keeps readings name content xs t m caller kept _ allowed =
    let tests = publish_tests (publish_rows t name) (max m t.clock.moment) content in
    let passes : AllByRecursion (λ (test : Bool × Refusal). test.0 ≡ false) tests = none_holds tests allowed in
    published_kept readings name content xs t m caller kept passes.1.0
