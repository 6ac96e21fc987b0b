-- A cancellation keeps the accounts.
use Rattle.office_machine.proofs.Names.{◌≡◌, ℕ, ◌+◌, Bool, true, false, cond, ◌&&◌, List, [], ◌∷◌, ◌++◌, map, filter, Option, Some, None, refl, sym, ◌∙◌, ap, subst, arith, option_map, unwrap_or, AllByRecursion, nat_cmp, eq_by_cmp, same_id, id_cmp, Caller, Refusal, holds_of, row_put, first_of, clock_put, security_returned, LineRow, NoticeRow, LotRow, ContractRow, Tables, IsSorted, notice_at, find_line, find_lot, after_puts, line_key, lot_key, lot_cmp, award_key, find_award, of_notice, lots_of_notice, awards_of_notice, envelopes_of_notice, securities_of_notice, after_put, plus, minus, paid_under, free_in, appropriation_in, Given, time_of, command_tests, effect, Readings, Move, Outside, Free, Reserved, Contracted, Paid, moves, reserved_for, Pot, inflow, outflow, same_pot, move_back, filter_filter, equal_keys, ids_exact, same_id_is, if_passes, row_at-filter, found_key, nat_list_cmp_total, Ordering, sum_over, Put, AwardRow, EnvelopeRow, SecurityRow, is_active, no_line, is_open_lot, cancelled_lot, freed, freed_line, ends, is_ended_award, cancelled_award, is_ended_envelope, envelope_put, drop_put, is_ended_security, cancelled_notice, cancel_puts, sum_over-append_map, sum_over-zero, sum_over-ext}
use Rattle.office_commands.specs.declared.commands.Command.TheVariants as commands
use Rattle.office_base.specs.declared.puts.Put.TheVariants as puts
use Rattle.office_machine.proofs.Accounts.Aside.{kept_aside, AreAside, aside-append, aside-map}
use Rattle.office_machine.proofs.Rows.Keyed.{found, sum-found_agree}
use Rattle.office_machine.proofs.Rows.Keyed as keyed
use Rattle.office_machine.proofs.Accounts.Kept.{AccountsStand, PotsAre, LotIs, AwardIs, over_contracts, reserved_by, reserved_over, is_awarded}
use Rattle.office_machine.proofs.Passed.{none_holds, neither, not_false, witness}
use Rattle.office_machine.proofs.Rows.RowsPut.{rows_put, some_has, lines_put, lots_put, after_lines, after_lots, found_after}
use Rattle.office_machine.proofs.Accounts.Joins.{is_of}
use Rattle.office_machine.proofs.Rows.Mapped.{put_changed, changed, put_changed_is, row_at-changed, sum-put_filtered, sum_over-passing}

-- this amount of the line becomes free again
record IsFreed (before after : Option LineRow) (amount : ℕ) : Type 0 where
  appropriation_is : appropriation_in after ≡ appropriation_in before
  free_is : free_in after ≡ free_in before + amount

own_line : (found : Option LineRow) (q : List ℕ) (amount : ℕ) → IsFreed found (Some (record (unwrap_or found (no_line q)) { line = q; free = free_in found + amount })) amount
own_line None q amount = record { appropriation_is = refl; free_is = refl }
own_line (Some row) q amount = record { appropriation_is = refl; free_is = refl }

each_freed : (lines : List LineRow) (all lots : List LotRow) (q : List ℕ)
    → AllByRecursion (λ (r : LineRow). eq_by_cmp id_cmp q r.line ≡ true → IsFreed (find_line lines q) (Some r) (freed q all)) (map (freed_line lines all) lots)
each_freed lines all [] q = tt
each_freed lines all (lot ∷ lots) q = (
  λ e. subst (λ p. IsFreed (find_line lines p) (Some (freed_line lines all lot)) (freed p all)) (sym (equal_keys ids_exact q lot.line e))
      (own_line (find_line lines lot.line) lot.line (freed lot.line all)),
  each_freed lines all lots q,
)

-- on a line that no lot names, nothing becomes free
freed_of_none : (lines : List LineRow) (all lots : List LotRow) (q : List ℕ) → some_has id_cmp line_key q (map (freed_line lines all) lots) ≡ false → freed q lots ≡ 0
freed_of_none lines all [] q none = refl
freed_of_none lines all (lot ∷ lots) q none =
    let apart = neither (eq_by_cmp id_cmp q lot.line) (some_has id_cmp line_key q (map (freed_line lines all) lots)) none in
    omega (arith, ap (λ b. cond b lot.reserved 0) (same_id_is lot.line q ∙ apart.0), freed_of_none lines all lots q apart.1)

none_freed : (found : Option LineRow) (amount : ℕ) → amount ≡ 0 → IsFreed found found amount
none_freed found amount none = record { appropriation_is = refl; free_is = omega (arith, none) }

freed_after : (lines : List LineRow) (lots : List LotRow) (q : List ℕ)
    → IsFreed (find_line lines q) (find_line (lines_put lines (map (freed_line lines lots) lots)) q) (freed q lots)
freed_after lines lots q =
    found_after nat_list_cmp_total line_key (λ found. IsFreed (find_line lines q) found (freed q lots)) q (map (freed_line lines lots) lots) lines
    (each_freed lines lots lots q)
    (λ none. none_freed (find_line lines q) (freed q lots) (freed_of_none lines lots lots q none))

-- rows are changed and put one after another
rows_put_changed : {K X : Type 0} (R : K → K → Ordering) (key : X → K) (g : X → X) (ys xs : List X) → rows_put R key xs (map g ys) ≡ put_changed R key g xs ys
rows_put_changed R key g [] xs = refl
rows_put_changed R key g (y ∷ ys) xs = rows_put_changed R key g ys (row_put R key xs (g y))

after_awards : (make : AwardRow → AwardRow) (rows : List AwardRow) (rest : List Put) (t : Tables)
    → after_puts (map (λ a. puts.Award (make a)) rows ++ rest) t ≡ after_puts rest (record t { awards = rows_put nat_cmp award_key t.awards (map make rows) })
after_awards make [] rest t = refl
after_awards make (a ∷ rows) rest t = after_awards make rows rest (after_put (puts.Award (make a)) t)

-- a changed row existed before its change
before_change : {X : Type 0} (g : X → X) (o : Option X) (y : X) → option_map g o ≡ Some y → (x : X) × (o ≡ Some x) × (g x ≡ y)
before_change g None y e = cc
before_change g (Some x) y e = (x, refl, let f : Some (g x) ≡ Some y = e in cc)

and_parts : (a b : Bool) → (a && b) ≡ true → (a ≡ true) × (b ≡ true)
and_parts true b e = (refl, e)
and_parts false b e = cc

module _ (readings : Readings) (xs : List Given) (s : Tables) (moment : ℕ) (caller : Caller) (n rationale : List ℕ) (kept : AccountsStand xs s) (order : IsSorted s) where
  abbrev x : Given
  x = record { before = s; moment = moment; caller = caller; command = commands.Cancel n rationale }

  abbrev lots : List LotRow
  lots = lots_of_notice n s

  -- the lots that end
  abbrev ended : List LotRow
  ended = filter is_open_lot lots

  abbrev is_ended : LotRow → Bool
  is_ended l = of_notice n l && is_open_lot l

  abbrev is_ended_one : AwardRow → Bool
  is_ended_one a = same_id a.notice n && is_ended_award lots a

  ended_is : ended ≡ filter is_ended s.lots
  ended_is = filter_filter is_open_lot (of_notice n) s.lots

  abbrev lots' : List LotRow
  lots' = map (changed is_ended cancelled_lot) s.lots

  abbrev awards' : List AwardRow
  awards' = map (changed is_ended_one cancelled_award) s.awards

  abbrev lines' : List LineRow
  lines' = lines_put s.lines (map (freed_line s.lines ended) ended)

  abbrev s' : Tables
  s' = record s { lines = lines'; lots = lots'; awards = awards' }

  lots_after : lots_put s.lots (map cancelled_lot ended) ≡ lots'
  lots_after =
      rows_put_changed lot_cmp lot_key cancelled_lot ended s.lots
      ∙ ap (put_changed lot_cmp lot_key cancelled_lot s.lots) ended_is
      ∙ put_changed_is keyed.lots is_ended cancelled_lot (λ _. refl) s.lots order.lots

  awards_after : rows_put nat_cmp award_key s.awards (map cancelled_award (filter (is_ended_award lots) (awards_of_notice n s))) ≡ awards'
  awards_after =
      rows_put_changed nat_cmp award_key cancelled_award (filter (is_ended_award lots) (awards_of_notice n s)) s.awards
      ∙ ap (put_changed nat_cmp award_key cancelled_award s.awards) (filter_filter (is_ended_award lots) (λ (a : AwardRow). same_id a.notice n) s.awards)
      ∙ put_changed_is keyed.awards is_ended_one cancelled_award (λ _. refl) s.awards order.awards

  lot_after : (j : List ℕ × List ℕ) → find_lot lots' j ≡ option_map (changed is_ended cancelled_lot) (find_lot s.lots j)
  lot_after j = row_at-changed keyed.lots is_ended cancelled_lot (λ _. refl) s.lots j

  award_after : (a : ℕ) → find_award awards' a ≡ option_map (changed is_ended_one cancelled_award) (find_award s.awards a)
  award_after a = row_at-changed keyed.awards is_ended_one cancelled_award (λ _. refl) s.awards a

  -- a lot remains on its line
  same_line : (q : List ℕ) (o : Option LotRow) → is_of (option_map (changed is_ended cancelled_lot) o) q ≡ is_of o q
  same_line q None = refl
  same_line q (Some l) = elim (is_ended l) as (λ b. same_id (cond b (cancelled_lot l) l).line q ≡ same_id l.line q) [ true ↦ refl | false ↦ refl ]

  joined : (f : ContractRow → ℕ) (q : List ℕ) → over_contracts f lots' s.contracts q ≡ over_contracts f s.lots s.contracts q
  joined f q = sum_over-ext _ _ s.contracts (λ c. ap (λ b. cond b (f c) 0) (ap (λ o. is_of o q) (lot_after (c.notice, c.lot)) ∙ same_line q (find_lot s.lots (c.notice, c.lot))))

  no_zero_at : (q : List ℕ) (l : LotRow) → reserved_by q (cancelled_lot l) ≡ 0
  no_zero_at q l = elim (same_id l.line q) as (λ b. ◌≡◌ {A = ℕ} (cond b 0 0) 0) [ true ↦ refl | false ↦ refl ]

  -- the amount reserved for the ended lots is no longer reserved
  reserved_after : (q : List ℕ) → reserved_over q lots' + freed q ended ≡ reserved_over q s.lots
  reserved_after q =
      omega (
        arith,
        sum-put_filtered keyed.lots is_ended cancelled_lot (λ _. refl) (reserved_by q) s.lots order.lots,
        ap (sum_over (reserved_by q)) (put_changed_is keyed.lots is_ended cancelled_lot (λ _. refl) s.lots order.lots),
        ap (sum_over (reserved_by q)) ended_is,
        sum_over-ext (λ l. reserved_by q (cancelled_lot l)) (λ _. 0) (filter is_ended s.lots) (no_zero_at q),
        sum_over-zero (filter is_ended s.lots),
      )

  -- each lot that ends has reserved the amount that is held for it
  held_by : (q : List ℕ) (l : LotRow) → find_lot s.lots (l.notice, l.lot) ≡ Some l → (b : Bool) → is_ended l ≡ b
      → cond b (cond (same_id l.line q) (reserved_for xs (l.notice, l.lot)) 0) 0 ≡ cond b (reserved_by q l) 0
  held_by q l is true e = ap (λ m. cond (same_id l.line q) m 0) (kept.lots (l.notice, l.lot) l is (and_parts _ _ e).1)
  held_by q l is false e = refl

  held_over : (q : List ℕ) → sum_over (λ (l : LotRow). cond (same_id l.line q) (reserved_for xs (l.notice, l.lot)) 0) ended ≡ freed q ended
  held_over q =
      let f : LotRow → ℕ = λ l. cond (same_id l.line q) (reserved_for xs (l.notice, l.lot)) 0 in
      ap (sum_over f) ended_is
      ∙ sum_over-passing is_ended f s.lots
      ∙ sum-found_agree keyed.lots (λ l. cond (is_ended l) (f l) 0) (λ l. cond (is_ended l) (reserved_by q l) 0) s.lots order.lots (λ l is. held_by q l is (is_ended l) refl)
      ∙ sym (sum_over-passing is_ended (reserved_by q) s.lots)
      ∙ sym (ap (sum_over (reserved_by q)) ended_is)

  into : (q : List ℕ) (p : Pot) → inflow (moves (x ∷ xs)) q p ≡ sum_over (λ (l : LotRow). cond (same_pot Free p && same_id l.line q) (reserved_for xs (l.notice, l.lot)) 0) ended + inflow (moves xs) q p
  into q p = sum_over-append_map (λ (m : Move). cond (same_pot m.to p && same_id m.line q) m.amount 0) (move_back (reserved_for xs)) ended (moves xs)

  out_of : (q : List ℕ) (p : Pot) → outflow (moves (x ∷ xs)) q p ≡ sum_over (λ (l : LotRow). cond (same_pot Reserved p && same_id l.line q) (reserved_for xs (l.notice, l.lot)) 0) ended + outflow (moves xs) q p
  out_of q p = sum_over-append_map (λ (m : Move). cond (same_pot m.from p && same_id m.line q) m.amount 0) (move_back (reserved_for xs)) ended (moves xs)

  pots : (q : List ℕ) → PotsAre (moves (x ∷ xs)) s' q
  pots q =
      let old = kept.pots q in
      let lines = freed_after s.lines ended q in
      let none = sum_over-zero ended in
      record {
        appropriation_is = omega (arith, old.appropriation_is, lines.appropriation_is, into q Outside, out_of q Outside, none);
        free_is = omega (arith, old.free_is, lines.free_is, into q Free, out_of q Free, none, held_over q);
        reserved_is = omega (arith, old.reserved_is, reserved_after q, into q Reserved, out_of q Reserved, none, held_over q);
        gains_are = omega (arith, old.gains_are, joined (plus s.entries) q, into q Contracted, none);
        losses_are = omega (arith, old.losses_are, joined (minus s.entries) q, out_of q Contracted, none);
        paid_is = omega (arith, old.paid_is, joined (paid_under s.entries) q, into q Paid, none);
        none_spent = omega (arith, old.none_spent, out_of q Paid, none);
      }

  lot_kept : (j : List ℕ × List ℕ) (l y : LotRow) → find_lot s.lots j ≡ Some l → (b : Bool) → cond b (cancelled_lot l) l ≡ y → LotIs (x ∷ xs) j y
  lot_kept j l y is true e = subst (LotIs (x ∷ xs) j) e (λ f. cc)
  lot_kept j l y is false e = subst (LotIs (x ∷ xs) j) e (kept.lots j l is)

  -- an active award of a lot that ends is cancelled
  ends_too : (w : AwardRow) (l : LotRow) → find_lot s.lots (w.notice, w.lot) ≡ Some l → is_active w.state ≡ true → is_ended l ≡ true → is_ended_one w ≡ true
  ends_too w l is active e =
      let parts = and_parts _ _ e in
      let at : (l.notice, l.lot) ≡ (w.notice, w.lot) = found_key keyed.lots s.lots (w.notice, w.lot) l is in
      let own : same_id w.notice n ≡ true = ap (λ (k : List ℕ × List ℕ). same_id k.0 n) (sym at) ∙ parts.0 in
      let found : find_lot lots (w.notice, w.lot) ≡ Some l = row_at-filter keyed.lots (of_notice n) s.lots (w.notice, w.lot) order.lots ∙ (ap (if_passes (of_notice n)) is ∙ ap (λ b. cond b (Some l) None) parts.0) in
      let ending : ends lots w.notice w.lot ≡ true = ap (holds_of is_open_lot) found ∙ parts.1 in
      (λ i. own i && (active i && ending i))

  award_kept : (a : ℕ) (w v : AwardRow) → find_award s.awards a ≡ Some w → (b : Bool) → is_ended_one w ≡ b → cond b (cancelled_award w) w ≡ v → AwardIs s' a v
  award_kept a w v is true e f = subst (AwardIs s' a) f (record { drawn = (kept.awards a w is).drawn; of_lot = λ m h g. cc })
  award_kept a w v is false e f =
      subst (AwardIs s' a) f (record {
        drawn = (kept.awards a w is).drawn;
        of_lot = λ m h g.
            let old = before_change (changed is_ended cancelled_lot) (find_lot s.lots (w.notice, w.lot)) m (sym (lot_after (w.notice, w.lot)) ∙ h) in
            subst (λ (m : LotRow). (is_awarded m.state ≡ true) × (m.reserved ≡ w.price)) old.2 (by old.0 old.1 g (is_ended old.0) refl);
      })
    where
      by : (l : LotRow) → find_lot s.lots (w.notice, w.lot) ≡ Some l → is_active w.state ≡ true → (b : Bool) → is_ended l ≡ b
          → (is_awarded (cond b (cancelled_lot l) l).state ≡ true) × ((cond b (cancelled_lot l) l).reserved ≡ w.price)
      by l at g true h = let i = ends_too w l at g h in absurd cc
      by l at g false h = (kept.awards a w is).of_lot l at g

  -- an award that is active after the cancellation was active before it
  was_active : (a : ℕ) (w v : AwardRow) → find_award s.awards a ≡ Some w → (b : Bool) → cond b (cancelled_award w) w ≡ v → is_active v.state ≡ true → find_award s.awards a ≡ Some v
  was_active a w v is true f g = let h : is_active (cancelled_award w).state ≡ true = ap (λ (v : AwardRow). is_active v.state) f ∙ g in cc
  was_active a w v is false f g = is ∙ ap Some f

  award_before : (a : ℕ) (v : AwardRow) → find_award s'.awards a ≡ Some v → (w : AwardRow) × (find_award s.awards a ≡ Some w) × (changed is_ended_one cancelled_award w ≡ v)
  award_before a v h = before_change (changed is_ended_one cancelled_award) (find_award s.awards a) v (sym (award_after a) ∙ h)

  -- an award of a contract isn't active
  isnt_active : (w : AwardRow) → is_active w.state ≡ false → (b : Bool) → is_active (cond b (cancelled_award w) w).state ≡ false
  isnt_active w e true = refl
  isnt_active w e false = e

  ended_keeps : AccountsStand (x ∷ xs) s'
  ended_keeps = record {
    pots = pots;
    lots = λ j y h. let old = before_change (changed is_ended cancelled_lot) (find_lot s.lots j) y (sym (lot_after j) ∙ h) in lot_kept j old.0 y old.1 (is_ended old.0) old.2;
    awards = λ a v h. let old = award_before a v h in award_kept a old.0 v old.1 (is_ended_one old.0) refl old.2;
    one_active = λ a b w v h g e f i j.
        let first = award_before a w h in
        let second = award_before b v g in
        kept.one_active a b w v (was_active a first.0 w first.1 (is_ended_one first.0) first.2 e) (was_active b second.0 v second.1 (is_ended_one second.0) second.2 f) e f i j;
    contracts = λ c y h.
        let old = kept.contracts c y h in
        record {
          of_award = (changed is_ended_one cancelled_award old.of_award.0, award_after c ∙ ap (option_map (changed is_ended_one cancelled_award)) old.of_award.1, isnt_active old.of_award.0 old.of_award.2 (is_ended_one old.of_award.0));
          running = old.running;
          within = old.within;
          came_in = omega (arith, old.came_in);
          went_out = omega (arith, old.went_out);
        };
    no_contract = λ c h. let old = kept.no_contract c h in record { came_in = omega (arith, old.came_in); went_out = omega (arith, old.went_out); raised = old.raised; lessened = old.lessened; paid_out = old.paid_out };
  }

  module _ (row : NoticeRow) (notice : notice_at n s ≡ Some row) where
    abbrev envelopes : List EnvelopeRow
    envelopes = filter (is_ended_envelope lots) (envelopes_of_notice n s)

    abbrev securities : List SecurityRow
    securities = filter (is_ended_security lots) (securities_of_notice n s)

    abbrev last_puts : List Put
    last_puts = puts.Notice (cancelled_notice row) ∷ clock_put s.clock (time_of x) ∷ []

    abbrev rest : List Put
    rest = map envelope_put envelopes ++ (map drop_put envelopes ++ (map security_returned securities ++ last_puts))

    rest_aside : AreAside s.clock.awards rest
    rest_aside =
        aside-append s.clock.awards (map envelope_put envelopes) _ (aside-map s.clock.awards envelope_put envelopes (λ _. tt))
        (aside-append s.clock.awards (map drop_put envelopes) _ (aside-map s.clock.awards drop_put envelopes (λ _. tt))
        (aside-append s.clock.awards (map security_returned securities) last_puts (aside-map s.clock.awards security_returned securities (λ _. tt)) (tt, (omega arith, tt))))

    abbrev all_puts : List Put
    all_puts = cancel_puts (record { notice = Some row; lines = s.lines; lots = lots; awards = awards_of_notice n s; envelopes = envelopes_of_notice n s; securities = securities_of_notice n s; clock = s.clock }) (time_of x)

    cancelled_is : after_puts all_puts s ≡ after_puts rest s'
    cancelled_is =
        after_lines (freed_line s.lines ended) ended _ s
        ∙ after_lots cancelled_lot ended _ (record s { lines = lines' })
        ∙ after_awards cancelled_award (filter (is_ended_award lots) (awards_of_notice n s)) rest (record s { lines = lines'; lots = lots_put s.lots (map cancelled_lot ended) })
        ∙ (λ i. after_puts rest (record s { lines = lines'; lots = lots_after i; awards = awards_after i }))

    effect_is : all_puts ≡ effect readings x
    effect_is = λ i. cancel_puts (record { notice = sym notice i; lines = s.lines; lots = lots; awards = awards_of_notice n s; envelopes = envelopes_of_notice n s; securities = securities_of_notice n s; clock = s.clock }) (time_of x)

    keeps : AccountsStand (x ∷ xs) (after_puts (effect readings x) s)
    keeps = subst (AccountsStand (x ∷ xs)) (sym cancelled_is ∙ ap (λ ps. after_puts ps s) effect_is) (kept_aside (x ∷ xs) rest s' rest_aside ended_keeps)

  module _ (allowed : first_of (command_tests x) ≡ None) where
    passes : AllByRecursion (λ (test : Bool × Refusal). test.0 ≡ false) (command_tests x)
    passes = none_holds (command_tests x) allowed

    pub cancel_keeps : AccountsStand (x ∷ xs) (after_puts (effect readings x) s)
    cancel_keeps = let notice = witness (notice_at n s) (not_false _ passes.0) in keeps notice.0 notice.1
