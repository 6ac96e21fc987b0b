-- The amendment of a contract keeps the laws of the office.
pub mod Gentle
use Rattle.office_machine.proofs.Names.{max, Option, ◌≡◌, ℕ, ◌+◌, ◌-◌, ◌≤◌, Bool, true, false, cond, not, ◌&&◌, List, [], ◌∷◌, Some, None, is_some, refl, sym, ◌∙◌, ap, subst, arith, ◌||◌, AllByRecursion, same_id, Refusal, Caller, ChangeKind, AmendContract, IsSorted, same_number, Tables, line_at, notice_at, lot_at, contract_at, find_line, put_line, find_entry, put_entry, entries_of_contract, after_puts, holds_of, first_of, with_next_release, clock_put, has_all_releases, LineRow, NoticeRow, LotRow, ContractRow, EntryRow, plus, minus, outstanding, paid_under, free_in, notice_of_contract, lot_of_contract, line_of_lot, is_raise, is_less, is_payment, ClockRow, amend_contract_tests, amend_contract_rows, is_running, is_beyond, has_ended, is_raising, entry_kind, line_after, change_row, amend_contract_puts, amend_contract_lacks, HaveParents, Given, time_of, command_tests, effect, Readings, moves, line_in, raised_by, cut_by, move_of_change, found_key}
use Rattle.office_commands.specs.declared.commands.Command.TheVariants as commands
use Rattle.office_commands.specs.declared.contract.ChangeKind.TheVariants as change_kinds
use Rattle.office_base.specs.declared.puts.Put.TheVariants as puts
use Rattle.office_machine.proofs.Parents.ParentsPut.{Grows, AllParents}
use Rattle.office_machine.proofs.Commands.Tail.{on_contract, moved, front}
use Rattle.office_machine.proofs.FateLaws.QuietFates.{Stands, contract_notice, kept_after, one_more}
use Rattle.office_machine.proofs.Parents.RowsHave.{entry_has}
use Rattle.office_machine.proofs.Accounts.Aside.{kept_aside}
use Rattle.office_machine.proofs.Rows.Keyed.{found}
use Rattle.office_machine.proofs.Accounts.Kept.{AccountsStand, PotsAre, ContractIs, over_contracts}
use Rattle.office_machine.proofs.Accounts.Joins.{outstanding-own, free-replaced}
use Rattle.office_machine.proofs.Passed.{none_holds, not_false, not_both, not_all, at_least, witness, test_of, split, neither}
use Rattle.office_machine.proofs.Accounts.Entered.{not_taken, contracts_are, no_contract_are, gains, losses, payments}
use Rattle.office_machine.proofs.Commands.Lawful.{Lawful, Moving}
use Rattle.office_machine.proofs.FateLaws.Views.{View}
use Rattle.office_machine.proofs.FateLaws.Seen.{seen, IsQuiet}
use Rattle.office_machine.proofs.FateLaws.FatesHold.{Keeps, given}
use Rattle.office_machine.proofs.Worlds.WorldsPut.{IsPlain, plain_pairs}
use Rattle.office_machine.proofs.Parents.SpokenOf.{of_contract}
use Rattle.office_machine.proofs.Parents.Whole.{IsWhole, line_there, not_overdrawn}
use Rattle.office_machine.proofs.Rows.Keyed as keyed
use Rattle.office_machine.proofs.Commands.AmendContract.Gentle.{amend_contract_gently}

-- the amount that an entry of this kind raises
is_raised : (kind : ChangeKind) (amount : ℕ) → raised_by kind amount ≡ cond (is_raise (entry_kind kind)) amount 0
is_raised change_kinds.Raise amount = refl
is_raised change_kinds.Cut amount = refl

is_cut_by : (kind : ChangeKind) (amount : ℕ) → cut_by kind amount ≡ cond (is_less (entry_kind kind)) amount 0
is_cut_by change_kinds.Raise amount = refl
is_cut_by change_kinds.Cut amount = refl

isnt_paid : (kind : ChangeKind) (amount : ℕ) → cond (is_payment (entry_kind kind)) amount 0 ≡ 0
isnt_paid change_kinds.Raise amount = refl
isnt_paid change_kinds.Cut amount = refl

zero_at : (b : Bool) (n : ℕ) → n ≡ 0 → cond b n 0 ≡ 0
zero_at true n e = e
zero_at false n e = refl

-- the free money suffices for a raise, and the outstanding amount for a cut
abbrev IsEnough : ChangeKind → ℕ → ℕ → ℕ → Type 0
IsEnough change_kinds.Raise amount free left = amount ≤ free
IsEnough change_kinds.Cut amount free left = amount ≤ left

module _ (readings : Readings) (xs : List Given) (s : Tables) (moment : ℕ) (caller : Caller) (c : ℕ) (entry : List ℕ) (kind : ChangeKind) (amount : ℕ) (rationale : List ℕ) (kept : AccountsStand xs s) (order : IsSorted s) where
  abbrev x : Given
  x = record { before = s; moment = moment; caller = caller; command = commands.AmendContract c entry kind amount rationale }

  module _ (r : ContractRow) (l : LotRow) (n : NoticeRow) (w : LineRow) (is : contract_at c s ≡ Some r) (lot : lot_at (r.notice, r.lot) s ≡ Some l) (notice : notice_at r.notice s ≡ Some n) (line : line_at l.line s ≡ Some w)
      (new : find_entry s.entries (c, entry) ≡ None) (enough : IsEnough kind amount w.free (outstanding s.entries r)) where
    abbrev row : EntryRow
    row = change_row (time_of x) r entry kind amount rationale

    abbrev s' : Tables
    s' = record s { entries = put_entry s.entries row; lines = put_line s.lines (line_after kind amount w) }

    number : r.contract ≡ c
    number = found_key keyed.contracts s.contracts c r is

    contract_is : ContractIs xs s c r
    contract_is = kept.contracts c r is

    line_is : w.line ≡ l.line
    line_is = found_key keyed.lines s.lines l.line w line

    line_here : find_line s.lines w.line ≡ Some w
    line_here = ap (find_line s.lines) line_is ∙ line

    -- the line of the move is that of the contract's lot
    of_lot : line_in (lot_of_contract (contract_at c s) s) ≡ l.line
    of_lot = ap line_in (ap (λ o. lot_of_contract o s) is ∙ lot)

    new_here : find_entry s.entries (r.contract, entry) ≡ None
    new_here = ap (λ c. find_entry s.entries (c, entry)) number ∙ new

    within_by : (k : ChangeKind) → IsEnough k amount w.free (outstanding s.entries r) → minus s.entries r + cond (is_less (entry_kind k)) amount 0 ≤ plus s.entries r + cond (is_raise (entry_kind k)) amount 0
    within_by change_kinds.Raise h = omega (arith, contract_is.within)
    within_by change_kinds.Cut h = omega (arith, h, contract_is.within)

    comes : (n : ℕ) → cond (same_number c n) (raised_by kind amount) 0 ≡ cond (same_number c n) (cond (is_raise (entry_kind kind)) amount 0) 0
    comes n = ap (λ m. cond (same_number c n) m 0) (is_raised kind amount)

    goes : (n : ℕ) → cond (same_number c n) (cut_by kind amount) 0 ≡ cond (same_number c n) (cond (is_less (entry_kind kind)) amount 0) 0
    goes n = ap (λ m. cond (same_number c n) m 0) (is_cut_by kind amount)

    -- the balances after a change of this kind
    pots_by : (k : ChangeKind) → IsEnough k amount w.free (outstanding s.entries r) → (q : List ℕ)
        → over_contracts (plus s'.entries) s.lots s.contracts q ≡ over_contracts (plus s.entries) s.lots s.contracts q + cond (same_id l.line q) (cond (is_raise (entry_kind k)) amount 0) 0
        → over_contracts (minus s'.entries) s.lots s.contracts q ≡ over_contracts (minus s.entries) s.lots s.contracts q + cond (same_id l.line q) (cond (is_less (entry_kind k)) amount 0) 0
        → over_contracts (paid_under s'.entries) s.lots s.contracts q ≡ over_contracts (paid_under s.entries) s.lots s.contracts q
        → PotsAre (move_of_change k (line_in (lot_of_contract (contract_at c s) s)) amount ∷ moves xs) (record s { entries = s'.entries; lines = put_line s.lines (line_after k amount w) }) q
    pots_by change_kinds.Raise h q up down out =
        let old = kept.pots q in
        let freed = free-replaced s.lines w (w.free - amount) q line_here in
        let here : cond (same_id (line_in (lot_of_contract (contract_at c s) s)) q) amount 0 ≡ cond (same_id w.line q) amount 0 = ap (λ n. cond (same_id n q) amount 0) (of_lot ∙ sym line_is) in
        let there : cond (same_id l.line q) amount 0 ≡ cond (same_id w.line q) amount 0 = ap (λ n. cond (same_id n q) amount 0) (sym line_is) in
        let parts = split (same_id w.line q) (w.free - amount) amount w.free (omega (arith, h)) in
        let nothing = zero_at (same_id l.line q) 0 refl in
        record {
          appropriation_is = omega (arith, old.appropriation_is, freed.appropriation_is);
          free_is = omega (arith, old.free_is, freed.free_is, here, parts);
          reserved_is = omega (arith, old.reserved_is);
          gains_are = omega (arith, old.gains_are, up, here, there);
          losses_are = omega (arith, old.losses_are, down, nothing);
          paid_is = omega (arith, old.paid_is, out);
          none_spent = omega (arith, old.none_spent);
        }
    pots_by change_kinds.Cut h q up down out =
        let old = kept.pots q in
        let freed = free-replaced s.lines w (w.free + amount) q line_here in
        let here : cond (same_id (line_in (lot_of_contract (contract_at c s) s)) q) amount 0 ≡ cond (same_id w.line q) amount 0 = ap (λ n. cond (same_id n q) amount 0) (of_lot ∙ sym line_is) in
        let there : cond (same_id l.line q) amount 0 ≡ cond (same_id w.line q) amount 0 = ap (λ n. cond (same_id n q) amount 0) (sym line_is) in
        let parts = split (same_id w.line q) w.free amount (w.free + amount) refl in
        let nothing = zero_at (same_id l.line q) 0 refl in
        record {
          appropriation_is = omega (arith, old.appropriation_is, freed.appropriation_is);
          free_is = omega (arith, old.free_is, freed.free_is, here, parts);
          reserved_is = omega (arith, old.reserved_is);
          gains_are = omega (arith, old.gains_are, up, nothing);
          losses_are = omega (arith, old.losses_are, down, here, there);
          paid_is = omega (arith, old.paid_is, out);
          none_spent = omega (arith, old.none_spent);
        }

    pots : (q : List ℕ) → PotsAre (moves (x ∷ xs)) s' q
    pots q = pots_by kind enough q
        (gains x xs s kept order c r l row is lot number new_here comes goes (within_by kind enough) q)
        (losses x xs s kept order c r l row is lot number new_here comes goes (within_by kind enough) q)
        (let paid = payments x xs s kept order c r l row is lot number new_here comes goes (within_by kind enough) q in omega (arith, paid, zero_at (same_id l.line q) _ (isnt_paid kind amount)))

    entered_keeps : AccountsStand (x ∷ xs) s'
    entered_keeps = record {
      pots = pots;
      lots = kept.lots;
      awards = λ a w h. let old = kept.awards a w h in record { drawn = old.drawn; of_lot = old.of_lot };
      one_active = kept.one_active;
      contracts = contracts_are x xs s kept order c r l row is lot number new_here comes goes (within_by kind enough) s';
      no_contract = no_contract_are x xs s kept order c r l row is lot number new_here comes goes (within_by kind enough) s';
    }

    effect_is : amend_contract_puts (record { contract = Some r; entries = []; notice = Some n; line = Some w; clock = s.clock }) (time_of x) entry kind amount rationale ≡ effect readings x
    effect_is = λ i. amend_contract_puts (record { contract = sym is i; entries = []; notice = (sym (ap (λ o. notice_of_contract o s) is ∙ notice) i); line = (sym (ap (λ o. line_of_lot o s) (ap (λ o. lot_of_contract o s) is ∙ lot) ∙ line) i); clock = s.clock }) (time_of x) entry kind amount rationale

    keeps : AccountsStand (x ∷ xs) (after_puts (effect readings x) s)
    keeps = subst (λ ps. AccountsStand (x ∷ xs) (after_puts ps s)) effect_is
        (kept_aside (x ∷ xs) (puts.Notice (with_next_release n) ∷ clock_put s.clock (time_of x) ∷ []) s' (tt, (omega arith, tt)) entered_keeps)

  module _ (have : HaveParents s s) (allowed : first_of (command_tests x) ≡ None) where
    passes : AllByRecursion (λ (test : Bool × Refusal). test.0 ≡ false) (command_tests x)
    passes = none_holds (command_tests x) allowed

    enough_by : (k : ChangeKind) (r : ContractRow) (l : LotRow) (w : LineRow) → contract_at c s ≡ Some r → lot_at (r.notice, r.lot) s ≡ Some l → line_at l.line s ≡ Some w → is_some r.ended ≡ false
        → (holds_of is_running (contract_at c s) && is_raising k && Rattle.std.specs.Prelude.nat_lt (free_in (line_of_lot (lot_of_contract (contract_at c s) s) s)) amount) ≡ false
        → (not (is_raising k) && holds_of (is_beyond (entries_of_contract c s) amount) (contract_at c s)) ≡ false
        → IsEnough k amount w.free (outstanding s.entries r)
    enough_by change_kinds.Raise r l w is lot line runs short beyond =
        let running : holds_of is_running (contract_at c s) ≡ true = ap (holds_of is_running) is ∙ ap not runs in
        let left = at_least _ _ (not_all (holds_of is_running (contract_at c s)) true (Rattle.std.specs.Prelude.nat_lt (free_in (line_of_lot (lot_of_contract (contract_at c s) s) s)) amount) short running refl) in
        omega (arith, left, ap free_in (ap (λ o. line_of_lot o s) (ap (λ o. lot_of_contract o s) is ∙ lot) ∙ line))
    enough_by change_kinds.Cut r l w is lot line runs short beyond =
        let left = at_least _ _ (not_both _ _ (test_of (is_beyond (entries_of_contract c s) amount) (contract_at c s) r is false beyond) runs) in
        omega (arith, left, outstanding-own s.entries c r (found_key keyed.contracts s.contracts c r is))

    pub amend_contract_keeps : AccountsStand (x ∷ xs) (after_puts (effect readings x) s)
    amend_contract_keeps =
        let found = witness (contract_at c s) (not_false _ passes.0) in
        let r = found.0 in
        let is = found.1 in
        let of = have.contracts c r is in
        let lot = witness _ of.lot in
        let notice = witness _ of.notice in
        let line = witness _ (have.lots (r.notice, r.lot) lot.0 lot.1).line in
        let runs : is_some r.ended ≡ false = test_of has_ended (contract_at c s) r is false passes.1.1.1.1.0 in
        keeps r lot.0 notice.0 line.0 is lot.1 notice.1 line.1 (not_taken s.entries c entry passes.1.0) (enough_by kind r lot.0 line.0 is lot.1 line.1 runs passes.1.1.0 passes.1.1.1.0)

-- the puts touch no tender and no security
quiet_puts : (V : View) (clock : ClockRow) (t : ℕ) (c : Option ContractRow) (n : Option NoticeRow) (r : Option LineRow) (entry : List ℕ) (kind : ChangeKind) (amount : ℕ) (rationale : List ℕ) → Stands V n
    → AllByRecursion (IsQuiet V clock.receipts) (amend_contract_puts (record { contract = c; entries = []; notice = n; line = r; clock = clock }) t entry kind amount rationale)
quiet_puts V clock t (Some c) (Some n) (Some r) entry kind amount rationale h = (tt, (tt, (h n refl, (refl, tt))))
quiet_puts V clock t None _ _ entry kind amount rationale h = tt
quiet_puts V clock t (Some c) None _ entry kind amount rationale h = tt
quiet_puts V clock t (Some c) (Some n) None entry kind amount rationale h = tt

-- the command takes no tender in, and decides no tender and no security
fates_kept : (readings : Readings) (contract : ℕ) (entry : List ℕ) (kind : ChangeKind) (amount : ℕ) (rationale : List ℕ)
    → Keeps readings (AmendContract contract entry kind amount rationale)
fates_kept readings contract entry kind amount rationale xs t m caller kept own allowed =
    kept_after readings (given t m caller (AmendContract contract entry kind amount rationale) ∷ xs) _ t
    (quiet_puts (seen t) t.clock (max m t.clock.moment) (contract_at contract t) (notice_of_contract (contract_at contract t) t) (line_of_lot (lot_of_contract (contract_at contract t) t) t) entry kind amount rationale
    (λ n found. contract_notice t (contract_at contract t) n found))
    (one_more readings xs (given t m caller (AmendContract contract entry kind amount rationale)) t kept refl (λ r. refl) (λ s. refl))

module _ (s u : Tables) (have : HaveParents s s) (g : Grows s u) where
  -- the rows that its rows refer to exist
  parents_of : (clock : ClockRow) (t contract : ℕ) (c : Option ContractRow) (n : Option NoticeRow) (w : Option LineRow) (entry : List ℕ) (kind : ChangeKind) (amount : ℕ) (rationale : List ℕ) → contract_at contract s ≡ c
      → AllParents u (amend_contract_puts (record { contract = c; entries = []; notice = n; line = w; clock = clock }) t entry kind amount rationale)
  parents_of clock t contract (Some c) (Some n) (Some w) entry kind amount rationale is = (record { contract = entry_has s u have g contract c is }, (tt, (tt, (tt, tt))))
  parents_of clock t contract None n w entry kind amount rationale is = tt
  parents_of clock t contract (Some c) None w entry kind amount rationale is = tt
  parents_of clock t contract (Some c) (Some n) None entry kind amount rationale is = tt

-- in both worlds the puts are the same
plain : (clock : ClockRow) (t : ℕ) (c : Option ContractRow) (n : Option NoticeRow) (w : Option LineRow) (entry : List ℕ) (kind : ChangeKind) (amount : ℕ) (rationale : List ℕ) → AllByRecursion IsPlain (amend_contract_puts (record { contract = c; entries = []; notice = n; line = w; clock = clock }) t entry kind amount rationale)
plain clock t (Some c) (Some n) (Some w) entry kind amount rationale = (tt, (tt, (tt, (tt, tt))))
plain clock t None n w entry kind amount rationale = tt
plain clock t (Some c) None w entry kind amount rationale = tt
plain clock t (Some c) (Some n) None entry kind amount rationale = tt

-- the contract's notice and its lot's line exist, and no more went from the contract than came
none_lacking : (xs : List Given) (s : Tables) → IsWhole xs s → (contract : ℕ) (o : Option ContractRow) → contract_at contract s ≡ o
    → amend_contract_lacks (record { contract = o; entries = entries_of_contract contract s; notice = notice_of_contract o s; line = line_of_lot (lot_of_contract o s) s; clock = s.clock }) ≡ false
none_lacking xs s whole contract None is = refl
none_lacking xs s whole contract (Some c) is =
    let h = whole.parents.contracts contract c is in
    let line = line_there s whole.parents (c.notice, c.lot) (lot_at (c.notice, c.lot) s) refl h.lot in
    λ i. ap not h.notice i || ap not line i || not_overdrawn xs s whole.accounts contract c is i

pub amend_contract : (contract : ℕ) (entry : List ℕ) (kind : ChangeKind) (amount : ℕ) (rationale : List ℕ) → Lawful (AmendContract contract entry kind amount rationale)
amend_contract contract entry kind amount rationale = record {
  accounts = Moving (λ readings xs s moment caller kept order have own allowed. amend_contract_keeps readings xs s moment caller contract entry kind amount rationale kept order have allowed);
  fates = λ readings. fates_kept readings contract entry kind amount rationale;
  tail = λ readings s moment caller have allowed.
      let tests = none_holds (amend_contract_tests (amend_contract_rows s contract) entry kind amount) allowed in
      let of = of_contract s have contract (not_false _ tests.0) in
      moved refl (λ i. amend_contract_puts (record { contract = of.is i; entries = []; notice = of.notice i; line = of.line i; clock = s.clock }) (max moment s.clock.moment) entry kind amount rationale)
      (front (puts.Entry _ ∷ puts.Line _ ∷ []) (refl, (refl, tt)) (on_contract contract of refl (neither _ (has_all_releases (notice_of_contract (contract_at contract s) s)) tests.1.1.1.1.1.0).1));
  parents = λ readings s moment caller order have registered may allowed u grown later. parents_of s u have grown s.clock _ contract (contract_at contract s) (notice_of_contract (contract_at contract s) s) (line_of_lot (lot_of_contract (contract_at contract s) s) s) entry kind amount rationale refl;
  lacks = λ xs s moment caller whole allowed. none_lacking xs s whole contract (contract_at contract s) refl;
  alike = λ th W s es' ss' all seals readings t caller quiet.
      plain_pairs th W (amend_contract_puts (record { contract = contract_at contract s; entries = []; notice = (notice_of_contract (contract_at contract s) s); line = (line_of_lot (lot_of_contract (contract_at contract s) s) s); clock = s.clock }) t entry kind amount rationale)
      (plain s.clock t (contract_at contract s) (notice_of_contract (contract_at contract s) s) (line_of_lot (lot_of_contract (contract_at contract s) s) s) entry kind amount rationale);
  gentle = amend_contract_gently contract entry kind amount rationale;
}
