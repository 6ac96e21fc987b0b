-- A publication keeps the accounts.
use Rattle.office_machine.proofs.Names.{found_key, HaveParents, ◌≡◌, ℕ, ◌+◌, Bool, true, false, cond, ◌&&◌, List, [], ◌∷◌, ◌++◌, map, Option, Some, None, is_some, refl, sym, ◌∙◌, ap, subst, arith, append_assoc, IsSome, AllByRecursion, list_any, eq_by_cmp, same_id, Caller, Refusal, LateWithdrawal, Forfeits, first_of, LineRow, LotRow, ContractRow, Tables, IsSorted, notice_at, find_line, find_lot, after_puts, put_notice, lot_key, lot_cmp, plus, minus, paid_under, Given, time_of, command_tests, effect, Readings, Move, Outside, Free, Reserved, Contracted, Paid, moves, reserved_for, Pot, inflow, outflow, same_pot, move_of_lot, estimate_in, equal_keys, lots_exact, equal_ids, same_itself, repeats_id, NewLot, NewNotice, lot_id, sum_over, Put, is_on_no_line, reserving_line, reserving_line_put, lot_row, new_lot_put, notice_row, notice_put, publish_parts, late_puts, lots_total, sum_over-append_map, sum_over-zero}
use Rattle.office_commands.specs.declared.notice.LateWithdrawal.TheVariants.{Refused}
use Rattle.office_machine.proofs.Accounts.Aside.{AreAside, kept_aside, after-append}
use Rattle.office_commands.specs.declared.commands.Command.TheVariants as commands
use Rattle.office_base.specs.declared.puts.Put.TheVariants as puts
use Rattle.office_machine.proofs.Rows.Keyed.{found, sum-found_agree}
use Rattle.office_machine.proofs.Rows.Keyed as keyed
use Rattle.office_machine.proofs.Accounts.Kept.{AccountsStand, PotsAre, LotIs, over_contracts}
use Rattle.office_machine.proofs.Passed.{none_holds, neither, not_false, witness}
use Rattle.office_machine.proofs.Commands.Publish.Rows.{taken_after, enough, AreAbsent, lots_new, reserved_after}
use Rattle.office_machine.proofs.Rows.RowsPut.{lines_put, lots_put, AreNew, after_lines, after_lots, found_after}
use Rattle.office_machine.proofs.Accounts.Joins.{is_of}

module _ (ms : List Move) (lots : List NewLot) (q : List ℕ) where
  into : (p : Pot) → inflow (map move_of_lot lots ++ ms) q p ≡ sum_over (λ (lot : NewLot). cond (same_pot Reserved p && same_id lot.line q) lot.estimate 0) lots + inflow ms q p
  into p = sum_over-append_map (λ (m : Move). cond (same_pot m.to p && same_id m.line q) m.amount 0) move_of_lot lots ms

  out_of : (p : Pot) → outflow (map move_of_lot lots ++ ms) q p ≡ sum_over (λ (lot : NewLot). cond (same_pot Free p && same_id lot.line q) lot.estimate 0) lots + outflow ms q p
  out_of p = sum_over-append_map (λ (m : Move). cond (same_pot m.from p && same_id m.line q) m.amount 0) move_of_lot lots ms

-- the lines of the lots exist
abbrev pub OnLines : List LineRow → List NewLot → Type 0
OnLines lines lots = AllByRecursion (λ (lot : NewLot). IsSome (find_line lines lot.line)) lots

pub on_lines : (lines : List LineRow) (lots : List NewLot) → list_any (is_on_no_line lines) lots ≡ false → OnLines lines lots
on_lines lines [] none = tt
on_lines lines (lot ∷ lots) none = let each = neither _ _ none in (not_false _ each.0, on_lines lines lots each.1)

-- the estimate of each lot is found by the lot's identifier
abbrev AreFound : List NewLot → List NewLot → Type 0
AreFound all lots = AllByRecursion (λ (lot : NewLot). (n : ℕ) → estimate_in all lot.id n ≡ lot.estimate) lots

apart_back : (a b : List ℕ) → same_id b a ≡ false → same_id a b ≡ false
apart_back a b h = by (same_id a b) refl
  where
    by : (c : Bool) → same_id a b ≡ c → c ≡ false
    by true e = let i : same_id b a ≡ true = ap (same_id b) (equal_ids a b e) ∙ same_itself b in cc
    by false e = refl

found_later : (lot : NewLot) (all lots : List NewLot) → list_any (λ (other : NewLot). same_id other.id lot.id) lots ≡ false → AreFound all lots → AreFound (lot ∷ all) lots
found_later lot all [] apart found = tt
found_later lot all (other ∷ lots) apart found =
    let each = neither _ _ apart in
    (λ n. ap (λ b. cond b lot.estimate (estimate_in all other.id n)) (apart_back lot.id other.id each.0) ∙ found.0 n, found_later lot all lots each.1 found.1)

estimates_found : (lots : List NewLot) → repeats_id lot_id lots ≡ false → AreFound lots lots
estimates_found [] own = tt
estimates_found (lot ∷ lots) own =
    let each = neither _ _ own in
    (λ n. ap (λ b. cond b lot.estimate (estimate_in lots lot.id n)) (same_itself lot.id), found_later lot lots lots each.0 (estimates_found lots each.1))

module _ (readings : Readings) (xs : List Given) (s : Tables) (moment : ℕ) (caller : Caller) (notice : List ℕ) (content : NewNotice) (kept : AccountsStand xs s) (order : IsSorted s) (have : HaveParents s s)
    (own : repeats_id lot_id content.lots ≡ false) where
  abbrev x : Given
  x = record { before = s; moment = moment; caller = caller; command = commands.Publish notice content }

  module _ (allowed : first_of (command_tests x) ≡ None) where
    -- the puts of the lines
    abbrev lot_lines : List LineRow
    lot_lines = map (reserving_line s.lines content.lots) content.lots

    abbrev lot_rows : List LotRow
    lot_rows = map (lot_row notice) content.lots

    -- the office after the publication, with its tables written out
    abbrev published : Tables
    published = record s {
      lines = lines_put s.lines lot_lines;
      lots = lots_put s.lots lot_rows;
      notices = put_notice s.notices (notice_row (time_of x) notice content);
      clock = record s.clock { moment = time_of x };
    }

    abbrev last_puts : List Put
    last_puts = notice_put (time_of x) notice content ∷ puts.Clock (record s.clock { moment = time_of x }) ∷ []

    published_is : after_puts (publish_parts s.clock (time_of x) notice s.lines content) s ≡ published
    published_is =
        ap (λ ps. after_puts ps s) (append_assoc (map (reserving_line_put s.lines content.lots) content.lots) (map (new_lot_put notice) content.lots) last_puts)
        ∙ after_lines (reserving_line s.lines content.lots) content.lots (map (new_lot_put notice) content.lots ++ last_puts) s
        ∙ after_lots (lot_row notice) content.lots last_puts (record s { lines = lines_put s.lines lot_lines })

    passes : AllByRecursion (λ (test : Bool × Refusal). test.0 ≡ false) (command_tests x)
    passes = none_holds (command_tests x) allowed

    kept_notice : (key : List ℕ × List ℕ) (lot : LotRow) → find_lot s.lots key ≡ Some lot → is_some (notice_at key.0 s) ≡ true
    kept_notice key lot found = ap (λ (k : List ℕ × List ℕ). is_some (notice_at k.0 s)) (sym (found_key keyed.lots s.lots key lot found)) ∙ (have.lots key lot found).notice

    no_lot : (id : List ℕ) (found : Option LotRow) → find_lot s.lots (notice, id) ≡ found → found ≡ None
    no_lot id None e = refl
    no_lot id (Some lot) e = let there : is_some (notice_at notice s) ≡ true = kept_notice (notice, id) lot e in let none = passes.1.0 in absurd cc

    all_absent : (lots : List NewLot) → AreAbsent s.lots notice lots
    all_absent [] = tt
    all_absent (lot ∷ lots) = (no_lot lot.id (find_lot s.lots (notice, lot.id)) refl, all_absent lots)

    new : AreNew lot_cmp lot_key s.lots lot_rows
    new = lots_new s.lots notice content.lots own (all_absent content.lots)

    -- no new lot has the key of an earlier one, so earlier lots are still found
    none_at : (key : List ℕ × List ℕ) (lot : LotRow) → find_lot s.lots key ≡ Some lot → (lots : List NewLot) → AreAbsent s.lots notice lots → AllByRecursion (λ (r : LotRow). eq_by_cmp lot_cmp key (lot_key r) ≡ true → Some r ≡ Some lot) (map (lot_row notice) lots)
    none_at key lot is [] absent = tt
    none_at key lot is (added ∷ lots) absent = (λ e. let k = ap (find_lot s.lots) (equal_keys lots_exact key (notice, added.id) e) in let none = absent.0 in absurd cc, none_at key lot is lots absent.1)

    still_found : (key : List ℕ × List ℕ) (lot : LotRow) → find_lot s.lots key ≡ Some lot → find_lot published.lots key ≡ Some lot
    still_found key lot is = found_after lots_total lot_key (λ found. found ≡ Some lot) key lot_rows s.lots (none_at key lot is content.lots (all_absent content.lots)) (λ none. is)

    joined : (f : ContractRow → ℕ) (q : List ℕ) → over_contracts f published.lots s.contracts q ≡ over_contracts f s.lots s.contracts q
    joined f q =
        sum-found_agree keyed.contracts _ _ s.contracts order.contracts (λ y is.
        let lot = witness _ (have.contracts y.contract y is).lot in
        ap (λ o. cond (is_of o q) (f y) 0) (still_found (y.notice, y.lot) lot.0 lot.1 ∙ sym lot.1))

    pots : (q : List ℕ) → PotsAre (moves (x ∷ xs)) published q
    pots q =
        let old = kept.pots q in
        let taken = taken_after s.lines content.lots q in
        let in_pot = into (moves xs) content.lots q in
        let from_pot = out_of (moves xs) content.lots q in
        let none = sum_over-zero content.lots in
        record {
          appropriation_is = omega (arith, old.appropriation_is, taken.appropriation_is, in_pot Outside, from_pot Outside, none);
          free_is = omega (arith, old.free_is, taken.free_is, enough s.lines content.lots q passes.1.1.1.0, in_pot Free, from_pot Free, none);
          reserved_is = omega (arith, old.reserved_is, reserved_after s.lots notice content.lots q new, in_pot Reserved, from_pot Reserved, none);
          gains_are = omega (arith, old.gains_are, joined (plus s.entries) q, in_pot Contracted, none);
          losses_are = omega (arith, old.losses_are, joined (minus s.entries) q, from_pot Contracted, none);
          paid_is = omega (arith, old.paid_is, joined (paid_under s.entries) q, in_pot Paid, none);
          none_spent = omega (arith, old.none_spent, from_pot Paid, none);
        }

    -- the facts remain true of an earlier lot
    old_lot : (key : List ℕ × List ℕ) (lot : LotRow) → find_lot s.lots key ≡ Some lot → LotIs (x ∷ xs) key lot
    old_lot key lot found e = by (same_id notice key.0) refl ∙ kept.lots key lot found e
      where
        by : (b : Bool) → same_id notice key.0 ≡ b → cond b (estimate_in content.lots key.1 (reserved_for xs key)) (reserved_for xs key) ≡ reserved_for xs key
        by true e =
            let there : is_some (notice_at notice s) ≡ true = ap (λ n. is_some (notice_at n s)) (equal_ids notice key.0 e) ∙ kept_notice key lot found in
            let none = passes.1.0 in
            absurd cc
        by false e = refl

    -- the facts are true of a lot of this notice
    new_lot : (lot : NewLot) → ((n : ℕ) → estimate_in content.lots lot.id n ≡ lot.estimate) → LotIs (x ∷ xs) (notice, lot.id) (lot_row notice lot)
    new_lot lot estimated e = ap (λ b. cond b (estimate_in content.lots lot.id (reserved_for xs (notice, lot.id))) (reserved_for xs (notice, lot.id))) (same_itself notice) ∙ estimated (reserved_for xs (notice, lot.id))

    each_new : (key : List ℕ × List ℕ) (lot : LotRow) (lots : List NewLot) → AreFound content.lots lots
        → AllByRecursion (λ (r : LotRow). eq_by_cmp lot_cmp key (lot_key r) ≡ true → Some r ≡ Some lot → LotIs (x ∷ xs) key lot) (map (lot_row notice) lots)
    each_new key lot [] estimated = tt
    each_new key lot (added ∷ lots) estimated = (
      λ e same.
          let is : lot_row notice added ≡ lot = cc in
          subst (λ k. LotIs (x ∷ xs) k lot) (sym (equal_keys lots_exact key (notice, added.id) e))
          (subst (LotIs (x ∷ xs) (notice, added.id)) is (new_lot added estimated.0)),
      each_new key lot lots estimated.1,
    )

    keeps : AccountsStand (x ∷ xs) published
    keeps = record {
      pots = pots;
      lots = λ key lot.
          found_after lots_total lot_key (λ found. found ≡ Some lot → LotIs (x ∷ xs) key lot) key lot_rows s.lots
          (each_new key lot content.lots (estimates_found content.lots own))
          (λ none. old_lot key lot);
      awards = λ a w at. let old = kept.awards a w at in record { drawn = old.drawn; of_lot = λ m h. let lot = witness _ (have.awards a w at).lot in let same : Some m ≡ Some lot.0 = sym h ∙ still_found (w.notice, w.lot) lot.0 lot.1 in old.of_lot m (lot.1 ∙ sym same) };
      one_active = kept.one_active;
      contracts = λ c y h.
          let old = kept.contracts c y h in
          record { of_award = old.of_award; running = old.running; within = old.within; came_in = omega (arith, old.came_in); went_out = omega (arith, old.went_out) };
      no_contract = λ c h. let old = kept.no_contract c h in record { came_in = omega (arith, old.came_in); went_out = omega (arith, old.went_out); raised = old.raised; lessened = old.lessened; paid_out = old.paid_out };
    }

    pub publish_keeps : AccountsStand (x ∷ xs) (after_puts (effect readings x) s)
    publish_keeps =
        subst (AccountsStand (x ∷ xs)) (sym (after-append (publish_parts s.clock (time_of x) notice s.lines content) (late_puts notice content.late_withdrawal) s))
        (kept_aside (x ∷ xs) (late_puts notice content.late_withdrawal) (after_puts (publish_parts s.clock (time_of x) notice s.lines content) s) (late_aside _ content.late_withdrawal) (subst (AccountsStand (x ∷ xs)) (sym published_is) keeps))
      where
        late_aside : (n : ℕ) (late : LateWithdrawal) → AreAside n (late_puts notice late)
        late_aside n Refused = tt
        late_aside n Forfeits = (tt, tt)
