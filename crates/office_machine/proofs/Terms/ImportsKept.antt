-- The budget files and the titles of budget lines are those that accepted imports gave.
use Rattle.office_machine.proofs.Names.{◌≡◌, ℕ, Bool, true, false, cond, List, [], ◌∷◌, ◌++◌, map, filter, length, Option, Some, None, option_map, is_some, unwrap_or, refl, sym, ap, ◌∙◌, subst, nat_list_cmp_total, list_any, AllByRecursion, eq_by_cmp, id_cmp, same_id, BudgetRow, Caller, Command, ChangeKind, How, NewLot, LateWithdrawal, Forfeits, NewNotice, line_of_lot, lot_of_contract, notice_of_contract, row_at, first_of, standings, IsSorted, Tables, after_put, after_puts, awards_of_notice, batch_at, batch_key, contract_at, envelopes_of_lot, envelopes_of_notice, find_line, line_at, line_key, lot_at, lots_of_notice, no_tables, notice_at, put_line, securities_of_lot, securities_of_notice, is_held_security, performance_settled, securities_returned, security_returned, Put, AwardRow, BatchRow, ContractRow, EnvelopeRow, LineRow, LotRow, NoticeRow, ReleaseRow, SecurityRow, Standing, equal_keys, ids_exact, same_id_is, row_at-row_put, found_key, award_put, cancel_puts, cancel_rows, cancelled_lot_put, drop_put, envelope_put, freed_line_put, is_ended_award, is_ended_envelope, is_ended_security, is_open_lot, after_rows, imported_line, is_on_no_line, late_puts, new_lot_put, no_line, publish_parts, publish_puts, publish_rows, publish_tests, reserving_line_put, amend_contract_puts, amend_contract_rows, line_after, award_puts, award_rows, decision_puts, winner, end_puts, end_rows, ended_state, HasImports, ImportsAreKept, batch_after, line_title, title_after, title_in, Given, Means, Reaches, command_tests, effect, publication, publication_puts, time_of}
use Rattle.office_commands.specs.declared.commands.Command.TheVariants as commands
use Rattle.office_commands.specs.declared.contract.ChangeKind.TheVariants as change_kinds
use Rattle.office_commands.specs.declared.notice.LateWithdrawal.TheVariants.{Refused}
use Rattle.office_base.specs.declared.puts.Put.TheVariants as puts
use Rattle.office_machine.proofs.Accounts.Aside.{after-append}
use Rattle.office_machine.proofs.Commands.Footprint.{Lines, Batches, Reads}
use Rattle.office_machine.proofs.FateLaws.QuietFates.{all_append, all_of_map}
use Rattle.office_machine.proofs.Parents.ParentsPut.{all-filter, all-table}
use Rattle.office_machine.proofs.Parents.ParentsThere.{parents_there}
use Rattle.office_machine.proofs.Passed.{allowed_by, neither, none_holds, not_false}
use Rattle.office_machine.proofs.Rows.RowsPut.{after_lines, found_after, lines_put}
use Rattle.office_machine.proofs.Rows.SortedTables.{sorted}
use Rattle.office_machine.proofs.Runs.{along}
use Rattle.office_machine.proofs.Terms.Said.{all_if}
use Rattle.office_machine.proofs.Terms.TermsKept.{all_made}
use Rattle.office_machine.proofs.Untouched.{untouched}
use Rattle.office_machine.proofs.Rows.Keyed as keyed

-- the title of a line, if it exists
abbrev title_at : List ℕ → Tables → Option (List ℕ)
title_at q t = option_map line_title (line_at q t)

-- the put is no budget file, and a line keeps its title
abbrev KeepsImports : Tables → Put → Type 0
KeepsImports s (puts.Line r) = title_at r.line s ≡ Some r.title
KeepsImports s (puts.Batch r) = ⊥
KeepsImports s _ = Unit {0}

reads_imports : (s : Tables) → Reads (Lines ∷ Batches ∷ []) (KeepsImports s)
reads_imports s (puts.Line r) other = absurd (let no : true ≡ false = other in cc)
reads_imports s (puts.Batch r) other = absurd (let no : true ≡ false = other in cc)
reads_imports s _ other = tt

-- the same budget files and titles
record SameImports (s u : Tables) : Type 0 where
  batches : (q : List ℕ) → batch_at q u ≡ batch_at q s
  titles : (q : List ℕ) → title_at q u ≡ title_at q s

put_same : (s : Tables) (p : Put) (u : Tables) → KeepsImports s p → SameImports s u → SameImports s (after_put p u)
put_same s (puts.Line r) u keeps same = record {
  batches = λ q. same.batches q;
  titles = λ q.
      found_after nat_list_cmp_total line_key (λ o. option_map line_title o ≡ title_at q s) q (r ∷ []) u.lines
      (λ e. sym keeps ∙ ap (λ k. title_at k s) (sym (equal_keys ids_exact q r.line e)), tt)
      (λ none. same.titles q);
}
put_same s (puts.Batch r) u keeps same = absurd keeps
put_same s _ u keeps same = record { batches = λ q. same.batches q; titles = λ q. same.titles q }

puts_same : (s : Tables) (ps : List Put) (u : Tables) → AllByRecursion (KeepsImports s) ps → SameImports s u → SameImports s (after_puts ps u)
puts_same s [] u keep same = same
puts_same s (p ∷ ps) u keep same = puts_same s ps (after_put p u) keep.1 (put_same s p u keep.0 same)

-- the title of a line that exists
title_found : (o : Option LineRow) (empty : LineRow) → is_some o ≡ true → option_map line_title o ≡ Some (unwrap_or o empty).title
title_found None empty there = absurd (let no : false ≡ true = there in cc)
title_found (Some r) empty there = refl

-- a row of an import gives its line its title
title_of_put : (b : Bool) (r : LineRow) (o : Option LineRow) → option_map line_title (cond b (Some r) o) ≡ cond b (Some r.title) (option_map line_title o)
title_of_put true r o = refl
title_of_put false r o = refl

title_put : (lines : List LineRow) (r : LineRow) (q : List ℕ)
    → option_map line_title (find_line (put_line lines r) q) ≡ cond (same_id r.line q) (Some r.title) (option_map line_title (find_line lines q))
title_put lines r q =
    ap (option_map line_title) (row_at-row_put nat_list_cmp_total line_key lines r q)
    ∙ title_of_put (eq_by_cmp id_cmp q r.line) r (find_line lines q)
    ∙ ap (λ b. cond b (Some r.title) (option_map line_title (find_line lines q))) (sym (same_id_is r.line q))

titles_put : (after : List Standing) (rows : List BudgetRow) (lines : List LineRow) (q : List ℕ)
    → option_map line_title (find_line (lines_put lines (map (imported_line after) rows)) q) ≡ title_in rows q (option_map line_title (find_line lines q))
titles_put after [] lines q = refl
titles_put after (row ∷ rows) lines q =
    titles_put after rows (put_line lines (imported_line after row)) q ∙ ap (title_in rows q) (title_put lines (imported_line after row) q)

module _ (means : Means) (xs : List Given) (s : Tables) (moment : ℕ) (caller : Caller) (has : HasImports xs s) (reached : Reaches means xs s) where
  abbrev given : Command → Given
  given command = record { before = s; moment = moment; caller = caller; command = command }

  abbrev AreKept : List Put → Type 0
  AreKept ps = AllByRecursion (KeepsImports s) ps

  -- a command that keeps them
  kept : (x : Given) (ps : List Put) → ((q : List ℕ) → batch_after (x ∷ xs) q ≡ batch_after xs q) → ((q : List ℕ) → title_after (x ∷ xs) q ≡ title_after xs q) → AreKept ps
      → HasImports (x ∷ xs) (after_puts ps s)
  kept x ps batches titles keep =
      let same = puts_same s ps s keep (record { batches = λ q. refl; titles = λ q. refl }) in
      record { batches = λ q. same.batches q ∙ has.batches q ∙ sym (batches q); titles = λ q. same.titles q ∙ has.titles q ∙ sym (titles q) }

  -- an import
  import_has : (batch : List ℕ) (rows : List BudgetRow) → HasImports (given (commands.Import batch rows) ∷ xs) (after_puts (effect means.readings (given (commands.Import batch rows))) s)
  import_has batch rows =
      let t : ℕ = time_of (given (commands.Import batch rows)) in
      let after : List Standing = after_rows (standings s) rows in
      let row : BatchRow = record { batch = batch; moment = t; rows = length rows } in
      let is = after_lines (imported_line after) rows (puts.Batch row ∷ puts.Clock (record s.clock { moment = t }) ∷ []) s in
      record {
        batches = λ q.
            ap (batch_at q) is
            ∙ row_at-row_put nat_list_cmp_total batch_key s.batches row q
            ∙ ap (λ b. cond b (Some row) (batch_at q s)) (sym (same_id_is batch q))
            ∙ ap (λ o. cond (same_id batch q) (Some row) o) (has.batches q);
        titles = λ q. ap (title_at q) is ∙ titles_put after rows s.lines q ∙ ap (title_in rows q) (has.titles q);
      }

  -- a publication
  lots_kept : (all lots : List NewLot) → list_any (is_on_no_line s.lines) lots ≡ false → AllByRecursion (λ (l : NewLot). KeepsImports s (reserving_line_put s.lines all l)) lots
  lots_kept all [] there = tt
  lots_kept all (l ∷ lots) there =
      let each = neither _ _ there in (title_found (find_line s.lines l.line) (no_line l.line) (not_false _ each.0), lots_kept all lots each.1)

  late_kept : (notice : List ℕ) (late : LateWithdrawal) → AreKept (late_puts notice late)
  late_kept notice Refused = tt
  late_kept notice Forfeits = (tt, tt)

  publish_kept : (t : ℕ) (notice : List ℕ) (new : NewNotice) → list_any (is_on_no_line s.lines) new.lots ≡ false → AreKept (publish_puts (publish_rows s notice) t notice new)
  publish_kept t notice new there =
      let P : Put → Type 0 = KeepsImports s in
      all_append P (publish_parts s.clock t notice s.lines new) (late_puts notice new.late_withdrawal)
      (all_append P (map (reserving_line_put s.lines new.lots) new.lots ++ map (new_lot_put notice) new.lots) _
      (all_append P (map (reserving_line_put s.lines new.lots) new.lots) (map (new_lot_put notice) new.lots)
      (all_made P (reserving_line_put s.lines new.lots) new.lots (lots_kept new.lots new.lots there)) (all_of_map P (new_lot_put notice) new.lots (λ _. tt)))
      (tt, (tt, tt)))
      (late_kept notice new.late_withdrawal)

  -- a cancellation
  cancel_kept : (t : ℕ) (notice : List ℕ) (o : Option NoticeRow) → AreKept (cancel_puts (record (cancel_rows s notice) { notice = o }) t)
  cancel_kept t notice None = tt
  cancel_kept t notice (Some n) =
      let lots : List LotRow = lots_of_notice notice s in
      let ended : List LotRow = filter is_open_lot lots in
      let awards : List AwardRow = filter (is_ended_award lots) (awards_of_notice notice s) in
      let gone : List EnvelopeRow = filter (is_ended_envelope lots) (envelopes_of_notice notice s) in
      let freed : List SecurityRow = filter (is_ended_security lots) (securities_of_notice notice s) in
      let order : IsSorted s = sorted means xs s reached in
      let P : Put → Type 0 = KeepsImports s in
      all_append P (map (freed_line_put s.lines ended) ended) _
      (all_made P (freed_line_put s.lines ended) ended
      (all-filter _ is_open_lot lots
      (all-filter _ _ s.lots
      (all-table keyed.lots (λ (l : LotRow). P (freed_line_put s.lines ended l)) s.lots order.lots
      (λ k l is. title_found (find_line s.lines l.line) (no_line l.line) ((parents_there means xs s reached).lots k l is).line)))))
      (all_append P (map cancelled_lot_put ended) _ (all_of_map P cancelled_lot_put ended (λ _. tt))
      (all_append P (map award_put awards) _ (all_of_map P award_put awards (λ _. tt))
      (all_append P (map envelope_put gone) _ (all_of_map P envelope_put gone (λ _. tt))
      (all_append P (map drop_put gone) _ (all_of_map P drop_put gone (λ _. tt))
      (all_append P (map security_returned freed) _ (all_of_map P security_returned freed (λ _. tt)) (tt, (tt, tt)))))))

  -- a line that was found keeps its title
  line_kept : (o : Option LotRow) (r : LineRow) → line_of_lot o s ≡ Some r → title_at r.line s ≡ Some r.title
  line_kept None r is = absurd (let no : ◌≡◌ {A = Option LineRow} None (Some r) = is in cc)
  line_kept (Some l) r is = ap (λ k. title_at k s) (found_key keyed.lines s.lines l.line r is) ∙ ap (option_map line_title) is

  returned_kept : (securities : List SecurityRow) → AreKept (securities_returned securities)
  returned_kept securities = all_of_map (KeepsImports s) security_returned (filter is_held_security securities) (λ _. tt)

  decided_kept : (t : ℕ) (n : NoticeRow) (l : LotRow) (r : LineRow) (ws : List SecurityRow) → title_at r.line s ≡ Some r.title → (o : Option EnvelopeRow)
      → AreKept (decision_puts s.clock t n l r o ws)
  decided_kept t n l r ws line None = (tt, (line, (tt, (tt, returned_kept ws))))
  decided_kept t n l r ws line (Some e) = (tt, (tt, (line, (tt, (tt, tt)))))

  award_kept : (t : ℕ) (notice lot : List ℕ) (n : Option NoticeRow) (l : Option LotRow) (r : Option LineRow) → line_of_lot l s ≡ r
      → AreKept (award_puts (record (award_rows s notice lot) { notice = n; lot = l; line = r }) t)
  award_kept t notice lot None l r is = tt
  award_kept t notice lot (Some n) None r is = tt
  award_kept t notice lot (Some n) (Some l) None is = tt
  award_kept t notice lot (Some n) (Some l) (Some r) is =
      decided_kept t n l r (securities_of_lot notice lot s) (line_kept (Some l) r is) (winner (Some n) (envelopes_of_lot notice lot s))

  -- a raise or a cut of a contract, and its end
  changed_kept : (kind : ChangeKind) (amount : ℕ) (r : LineRow) → title_at r.line s ≡ Some r.title → KeepsImports s (puts.Line (line_after kind amount r))
  changed_kept change_kinds.Raise amount r line = line
  changed_kept change_kinds.Cut amount r line = line

  change_kept : (t contract : ℕ) (entry : List ℕ) (kind : ChangeKind) (amount : ℕ) (rationale : List ℕ) (o : Option ContractRow) (n : Option NoticeRow) (r : Option LineRow)
      → line_of_lot (lot_of_contract o s) s ≡ r
      → AreKept (amend_contract_puts (record (amend_contract_rows s contract) { contract = o; notice = n; line = r }) t entry kind amount rationale)
  change_kept t contract entry kind amount rationale None n r is = tt
  change_kept t contract entry kind amount rationale (Some c) None r is = tt
  change_kept t contract entry kind amount rationale (Some c) (Some n) None is = tt
  change_kept t contract entry kind amount rationale (Some c) (Some n) (Some r) is =
      (tt, (changed_kept kind amount r (line_kept (lot_of_contract (Some c) s) r is), (tt, (tt, tt))))

  end_kept : (t contract : ℕ) (how : How) (o : Option ContractRow) (n : Option NoticeRow) (r : Option LineRow) → line_of_lot (lot_of_contract o s) s ≡ r
      → AreKept (end_puts (record (end_rows s contract) { contract = o; notice = n; line = r }) t how)
  end_kept t contract how None n r is = tt
  end_kept t contract how (Some c) None r is = tt
  end_kept t contract how (Some c) (Some n) None is = tt
  end_kept t contract how (Some c) (Some n) (Some r) is =
      let security = (end_rows s contract).performance in
      (tt, (line_kept (lot_of_contract (Some c) s) r is, (tt, (tt, all_if (KeepsImports s) (performance_settled (ended_state how)) security (λ _. tt)))))

  one_has : (command : Command) → first_of (command_tests (given command)) ≡ None → HasImports (given command ∷ xs) (after_puts (effect means.readings (given command)) s)
  one_has (commands.Import batch rows) allowed = import_has batch rows
  one_has (commands.Publish notice new) allowed =
      let x = given (commands.Publish notice new) in
      kept x _ (λ q. refl) (λ q. refl) (publish_kept (time_of x) notice new (none_holds (publish_tests (publish_rows s notice) (time_of x) new) allowed).0)
  one_has (commands.Cancel notice rationale) allowed =
      let x = given (commands.Cancel notice rationale) in kept x _ (λ q. refl) (λ q. refl) (cancel_kept (time_of x) notice (notice_at notice s))
  one_has (commands.Award notice lot) allowed =
      let x = given (commands.Award notice lot) in
      kept x _ (λ q. refl) (λ q. refl) (award_kept (time_of x) notice lot (notice_at notice s) (lot_at (notice, lot) s) (line_of_lot (lot_at (notice, lot) s) s) refl)
  one_has (commands.AmendContract contract entry kind amount rationale) allowed =
      let x = given (commands.AmendContract contract entry kind amount rationale) in
      let o : Option ContractRow = contract_at contract s in
      kept x _ (λ q. refl) (λ q. refl) (change_kept (time_of x) contract entry kind amount rationale o (notice_of_contract o s) (line_of_lot (lot_of_contract o s) s) refl)
  one_has (commands.End contract how) allowed =
      let x = given (commands.End contract how) in
      let o : Option ContractRow = contract_at contract s in
      kept x _ (λ q. refl) (λ q. refl) (end_kept (time_of x) contract how o (notice_of_contract o s) (line_of_lot (lot_of_contract o s) s) refl)
  one_has command allowed =
      kept (given command) (effect means.readings (given command)) (λ q. refl) (λ q. refl) (untouched means xs s moment caller reached (KeepsImports s) (Lines ∷ Batches ∷ []) (reads_imports s) command refl allowed)

-- a release changes none of them
published_has : (xs : List Given) (t : Tables) (p : Option ReleaseRow) → HasImports xs t → HasImports xs (after_puts (publication_puts p) t)
published_has xs t None has = has
published_has xs t (Some p) has = record { batches = λ q. has.batches q; titles = λ q. has.titles q }

none_has : HasImports [] no_tables
unfolding row_at
none_has = record { batches = λ q. refl; titles = λ q. refl }

pub imports_kept : ImportsAreKept
imports_kept means = along means HasImports none_has
    (λ merges in_order xs t of_notices has. record { batches = λ q. has.batches q; titles = λ q. has.titles q })
    (λ xs x accepted has.
    subst (HasImports (x ∷ xs)) (sym (after-append (effect means.readings x) (publication_puts (publication means x)) x.before))
    (published_has (x ∷ xs) (after_puts (effect means.readings x) x.before) (publication means x)
    (one_has means xs x.before x.moment x.caller has accepted.reached x.command (allowed_by x accepted.allowed))))
