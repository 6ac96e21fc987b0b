-- The outstanding amount of a contract after a command on it.
use Rattle.office_machine.proofs.Names.{HaveParents, ◌≡◌, ℕ, ◌+◌, ◌≤◌, Bool, true, false, cond, ◌&&◌, List, Option, Some, None, is_some, refl, sym, ◌∙◌, ap, subst, arith, [], nat_cmp_total, AllByRecursion, list_any, Caller, Command, AmendContract, Pay, End, ChangeKind, How, Refusal, PerformanceRow, is_raise, is_less, entry_sum, plus, minus, outstanding, notice_of_contract, lot_of_contract, line_of_lot, holds_of, Tables, same_number, line_at, notice_at, lot_at, contract_at, find_contract, put_contract, find_entry, put_entry, entries_of_contract, after_puts, performance_at, EntryKind, LineRow, NoticeRow, LotRow, ContractRow, EntryRow, is_taken, has_ended, is_beyond, change_row, amend_contract_puts, payment_row, pay_puts, ended_contract, end_puts, Readings, Means, Given, Reaches, time_of, command_tests, left_with, left_by_payment, left_by_change, left_by_end, left_before, notice_under, line_under, IsLeft, LeftIsKnown, OutstandingIsKept, LeftIsBooked, left_of, found_key, own_key}
use Rattle.office_commands.specs.declared.contract.ChangeKind.TheVariants as change_kinds
use Rattle.office_machine.proofs.Accounts.Entered.{not_taken}
use Rattle.office_machine.proofs.Accounts.Joins.{entry_sum-new, entry_sum-own, outstanding-own}
use Rattle.office_machine.proofs.Rows.Keyed.{found_put}
use Rattle.office_machine.proofs.Rows.Keyed as keyed
use Rattle.office_machine.proofs.Accounts.Kept.{AccountsStand}
use Rattle.office_machine.proofs.Accounts.AccountsKept.{all_kept}
use Rattle.office_machine.proofs.Parents.ParentsThere.{parents_there}
use Rattle.office_machine.proofs.Passed.{none_holds, allowed_by, not_false, not_both, at_least, witness, test_of}

-- the outstanding amount of a contract in an office
abbrev left_at : ℕ → Tables → ℕ
left_at c t = left_of (contract_at c t) t.entries

module _ (s : Tables) (c : ℕ) where
  -- the contract's own entries
  abbrev own : List EntryRow
  own = entries_of_contract c s

  -- every entry that counts for the contract is one of its own
  same_sum : (r : ContractRow) → contract_at c s ≡ Some r → (kind : EntryKind → Bool)
      → entry_sum kind own r.contract ≡ entry_sum kind s.entries r.contract
  same_sum r is kind =
      subst (λ n. entry_sum kind own n ≡ entry_sum kind s.entries n) (sym (found_key keyed.contracts s.contracts c r is)) (entry_sum-own kind s.entries c)

  -- if nothing is put, the outstanding amount is that of the contract's own entries
  untouched : (o : Option ContractRow) → contract_at c s ≡ o → left_at c s ≡ left_of o own
  untouched None is = ap (λ o. left_of o s.entries) is
  untouched (Some r) is = ap (λ o. left_of o s.entries) is ∙ sym (outstanding-own s.entries c r (found_key keyed.contracts s.contracts c r is))

  -- the contract gets an entry
  module _ (r : ContractRow) (is : contract_at c s ≡ Some r) (row : EntryRow) (at : row.contract ≡ r.contract)
      (new : list_any (is_taken row.entry) own ≡ false) where
    number : r.contract ≡ c
    number = found_key keyed.contracts s.contracts c r is

    abbrev entered : List EntryRow
    entered = put_entry s.entries row

    same : same_number row.contract c ≡ true
    same = ap (λ k. same_number k c) (at ∙ number) ∙ own_key nat_cmp_total c

    new_here : find_entry s.entries (row.contract, row.entry) ≡ None
    new_here = ap (λ k. find_entry s.entries (k, row.entry)) (at ∙ number) ∙ not_taken s.entries c row.entry new

    here : (b : Bool) → cond (b && same_number row.contract c) row.amount 0 ≡ cond b row.amount 0
    here true = ap (λ b. cond b row.amount 0) same
    here false = refl

    summed : (kind : EntryKind → Bool) → entry_sum kind entered r.contract ≡ entry_sum kind own r.contract + cond (kind row.kind) row.amount 0
    summed kind = subst (λ n. entry_sum kind entered n ≡ entry_sum kind own n + cond (kind row.kind) row.amount 0) (sym number)
        (omega (arith, entry_sum-new kind s.entries row c new_here, entry_sum-own kind s.entries c, here (kind row.kind)))

    left_entered : outstanding entered r ≡ left_with own r (cond (is_raise row.kind) row.amount 0) (cond (is_less row.kind) row.amount 0)
    left_entered = omega (arith, summed is_raise, summed is_less)

    pub left_after_entry : left_of (contract_at c s) entered
        ≡ left_with own r (cond (is_raise row.kind) row.amount 0) (cond (is_less row.kind) row.amount 0)
    left_after_entry = ap (λ o. left_of o entered) is ∙ left_entered

  module _ (t : ℕ) (entry : List ℕ) (amount : ℕ) (new : list_any (is_taken entry) own ≡ false) where
    left_paid : (o : Option ContractRow) (n : Option NoticeRow) → contract_at c s ≡ o
        → left_at c (after_puts (pay_puts (record { contract = o; entries = []; notice = n; clock = s.clock }) t entry amount) s) ≡ left_by_payment o own n amount
    left_paid None n is = untouched None is
    left_paid (Some r) None is = untouched (Some r) is
    left_paid (Some r) (Some n) is = left_after_entry r is (payment_row t r entry amount) refl new

    left_amended : (kind : ChangeKind) (rationale : List ℕ) (o : Option ContractRow) (n : Option NoticeRow) (w : Option LineRow)
        → contract_at c s ≡ o
        → left_at c (after_puts (amend_contract_puts (record { contract = o; entries = []; notice = n; line = w; clock = s.clock }) t entry kind amount rationale) s) ≡ left_by_change kind o own n w amount
    left_amended kind rationale None n w is = untouched None is
    left_amended kind rationale (Some r) None w is = untouched (Some r) is
    left_amended kind rationale (Some r) (Some n) None is = untouched (Some r) is
    left_amended change_kinds.Raise rationale (Some r) (Some n) (Some w) is =
        left_after_entry r is (change_row t r entry change_kinds.Raise amount rationale) refl new
    left_amended change_kinds.Cut rationale (Some r) (Some n) (Some w) is =
        left_after_entry r is (change_row t r entry change_kinds.Cut amount rationale) refl new

  left_ended : (t : ℕ) (how : How) (o : Option ContractRow) (n : Option NoticeRow) (w : Option LineRow) (performance : Option PerformanceRow) → contract_at c s ≡ o
      → left_at c (after_puts (end_puts (record { contract = o; entries = own; notice = n; line = w; performance = performance; clock = s.clock }) t how) s) ≡ left_by_end o own n w
  left_ended t how None n w performance is = untouched None is
  left_ended t how (Some r) None w performance is = untouched (Some r) is
  left_ended t how (Some r) (Some n) None performance is = untouched (Some r) is
  left_ended t how (Some r) (Some n) (Some w) performance is = tail performance ∙ (
      let r' = ended_contract t how own r in
      let number = found_key keyed.contracts s.contracts c r is in
      let found : find_contract (put_contract s.contracts r') c ≡ Some r' =
      ap (find_contract (put_contract s.contracts r')) (sym number) ∙ found_put keyed.contracts s.contracts r' in
      let left : outstanding s.entries r' ≡ left_with own r r.released (outstanding own r) = omega (arith, same_sum r is is_raise, same_sum r is is_less) in
      ap (λ o. left_of o s.entries) found ∙ left)
    where
      tail : (p : Option PerformanceRow) → left_at c (after_puts (end_puts (record { contract = Some r; entries = own; notice = Some n; line = Some w; performance = p; clock = s.clock }) t how) s) ≡ left_at c (after_puts (end_puts (record { contract = Some r; entries = own; notice = Some n; line = Some w; performance = None; clock = s.clock }) t how) s)
      tail None = refl
      tail (Some p) = refl

abbrev given : Tables → ℕ → Caller → Command → Given
given s moment caller command = record { before = s; moment = moment; caller = caller; command = command }

-- none of the command's tests holds
abbrev Passes : Given → Type 0
Passes x = AllByRecursion (λ (test : Bool × Refusal). test.0 ≡ false) (command_tests x)

-- the outstanding amount after each command follows from the rows
known : (readings : Readings) (s : Tables) (moment : ℕ) (caller : Caller) (command : Command) → Passes (given s moment caller command)
    → IsLeft readings (given s moment caller command) s command
known readings s moment caller (AmendContract c entry kind amount rationale) passes =
    let x = given s moment caller (AmendContract c entry kind amount rationale) in
    left_amended s c (time_of x) entry amount passes.1.0 kind rationale (contract_at c s) (notice_under c s) (line_under c s) refl
known readings s moment caller (Pay c entry amount) passes =
    let x = given s moment caller (Pay c entry amount) in
    left_paid s c (time_of x) entry amount passes.1.0 (contract_at c s) (notice_under c s) refl
known readings s moment caller (End c how) passes =
    let x = given s moment caller (End c how) in
    left_ended s c (time_of x) how (contract_at c s) (notice_under c s) (line_under c s) (performance_at c s) refl
known readings s moment caller _ passes = tt

pub left_is_known : LeftIsKnown
left_is_known readings x allowed = known readings x.before x.moment x.caller x.command (none_holds (command_tests x) (allowed_by x allowed))

-- in a reached office, every row exists that a command on a contract looks at
module _ (means : Means) (xs : List Given) (s : Tables) (reached : Reaches means xs s) (c : ℕ) (there : is_some (contract_at c s) ≡ true) where
  kept : AccountsStand xs s
  kept = all_kept means xs s reached

  have : HaveParents s s
  have = parents_there means xs s reached

  contract : (r : ContractRow) × (contract_at c s ≡ Some r)
  contract = witness (contract_at c s) there

  abbrev r : ContractRow
  r = contract.0

  is : contract_at c s ≡ Some r
  is = contract.1

  lot : (l : LotRow) × (lot_at (r.notice, r.lot) s ≡ Some l)
  lot = witness (lot_at (r.notice, r.lot) s) (have.contracts c r is).lot

  notice : (n : NoticeRow) × (notice_at r.notice s ≡ Some n)
  notice = witness (notice_at r.notice s) (have.contracts c r is).notice

  line : (w : LineRow) × (line_at lot.0.line s ≡ Some w)
  line = witness (line_at lot.0.line s) (have.lots (r.notice, r.lot) lot.0 lot.1).line

  notice_is : notice_under c s ≡ Some notice.0
  notice_is = ap (λ o. notice_of_contract o s) is ∙ notice.1

  line_is : line_under c s ≡ Some line.0
  line_is = ap (λ o. line_of_lot o s) (ap (λ o. lot_of_contract o s) is ∙ lot.1) ∙ line.1

  before : left_before s c ≡ outstanding (own s c) r
  before = ap (λ o. left_of o (own s c)) is

  -- no more went from the contract than came
  within : minus (own s c) r ≤ plus (own s c) r
  within = omega (arith, (kept.contracts c r is).within, same_sum s c r is is_raise, same_sum s c r is is_less)

  module _ (runs : holds_of has_ended (contract_at c s) ≡ false) where
    running : is_some r.ended ≡ false
    running = test_of has_ended (contract_at c s) r is false runs

    enough : (amount : ℕ) → holds_of (is_beyond (own s c) amount) (contract_at c s) ≡ false → amount ≤ outstanding (own s c) r
    enough amount beyond = at_least _ _ (not_both _ _ (test_of (is_beyond (own s c) amount) (contract_at c s) r is false beyond) running)

    booked_payment : (amount left : ℕ) → holds_of (is_beyond (own s c) amount) (contract_at c s) ≡ false
        → left ≡ left_by_payment (contract_at c s) (own s c) (notice_under c s) amount → left + amount ≡ left_before s c
    booked_payment amount left beyond known =
        let at : left ≡ left_with (own s c) r 0 amount = known ∙ (λ i. left_by_payment (is i) (own s c) (notice_is i) amount) in
        omega (arith, at, before, enough amount beyond)

    booked_cut : (amount left : ℕ) → holds_of (is_beyond (own s c) amount) (contract_at c s) ≡ false
        → left ≡ left_by_change change_kinds.Cut (contract_at c s) (own s c) (notice_under c s) (line_under c s) amount → left + amount ≡ left_before s c
    booked_cut amount left beyond known =
        let at : left ≡ left_with (own s c) r 0 amount =
        known ∙ (λ i. left_by_change change_kinds.Cut (is i) (own s c) (notice_is i) (line_is i) amount) in
        omega (arith, at, before, enough amount beyond)

    booked_end : (left : ℕ) → left ≡ left_by_end (contract_at c s) (own s c) (notice_under c s) (line_under c s) → left ≡ 0
    booked_end left known =
        let at : left ≡ left_with (own s c) r r.released (outstanding (own s c) r) =
        known ∙ (λ i. left_by_end (is i) (own s c) (notice_is i) (line_is i)) in
        omega (arith, at, (kept.contracts c r is).running running)

  booked_raise : (amount left : ℕ)
      → left ≡ left_by_change change_kinds.Raise (contract_at c s) (own s c) (notice_under c s) (line_under c s) amount
      → left ≡ left_before s c + amount
  booked_raise amount left known =
      let at : left ≡ left_with (own s c) r amount 0 =
      known ∙ (λ i. left_by_change change_kinds.Raise (is i) (own s c) (notice_is i) (line_is i) amount) in
      omega (arith, at, before, within)

booked : (means : Means) (xs : List Given) (s : Tables) (moment : ℕ) (caller : Caller) (command : Command) → Reaches means xs s
    → Passes (given s moment caller command) → OutstandingIsKept means.readings (given s moment caller command) s command
booked means xs s moment caller (AmendContract c entry change_kinds.Raise amount rationale) reached passes =
    booked_raise means xs s reached c (not_false _ passes.0) amount _
    (known means.readings s moment caller (AmendContract c entry change_kinds.Raise amount rationale) passes)
booked means xs s moment caller (AmendContract c entry change_kinds.Cut amount rationale) reached passes =
    booked_cut means xs s reached c (not_false _ passes.0) passes.1.1.1.1.0 amount _ passes.1.1.1.0
    (known means.readings s moment caller (AmendContract c entry change_kinds.Cut amount rationale) passes)
booked means xs s moment caller (Pay c entry amount) reached passes =
    booked_payment means xs s reached c (not_false _ passes.0) passes.1.1.1.0 amount _ passes.1.1.0
    (known means.readings s moment caller (Pay c entry amount) passes)
booked means xs s moment caller (End c how) reached passes =
    booked_end means xs s reached c (not_false _ passes.0) passes.1.0 _ (known means.readings s moment caller (End c how) passes)
booked means xs s moment caller _ reached passes = tt

pub left_is_booked : LeftIsBooked
left_is_booked means xs x reached allowed = booked means xs x.before x.moment x.caller x.command reached (none_holds (command_tests x) (allowed_by x allowed))
