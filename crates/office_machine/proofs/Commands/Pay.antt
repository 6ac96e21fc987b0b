-- A payment keeps the laws of the office.
pub mod Gentle
use Rattle.office_machine.proofs.Names.{max, Option, ◌≡◌, ℕ, ◌+◌, ◌≤◌, Bool, true, false, cond, List, [], ◌∷◌, Some, None, is_some, refl, sym, ◌∙◌, ap, subst, arith, not, AllByRecursion, same_id, Refusal, Caller, Pay, IsSorted, same_number, Tables, notice_at, lot_at, contract_at, find_entry, put_entry, entries_of_contract, after_puts, first_of, with_next_release, clock_put, has_all_releases, NoticeRow, LotRow, ContractRow, EntryRow, plus, minus, outstanding, notice_of_contract, lot_of_contract, ClockRow, is_beyond, has_ended, payment_row, pay_rows, pay_tests, pay_puts, pay_lacks, HaveParents, Given, time_of, command_tests, effect, Readings, moves, line_in, found_key}
use Rattle.office_commands.specs.declared.commands.Command.TheVariants as commands
use Rattle.office_base.specs.declared.puts.Put.TheVariants as puts
use Rattle.office_machine.proofs.Parents.ParentsPut.{Grows, AllParents}
use Rattle.office_machine.proofs.Commands.Tail.{on_contract, moved, front}
use Rattle.office_machine.proofs.FateLaws.QuietFates.{Stands, contract_notice, kept_after, one_more}
use Rattle.office_machine.proofs.Parents.RowsHave.{entry_has}
use Rattle.office_machine.proofs.Accounts.Aside.{kept_aside}
use Rattle.office_machine.proofs.Accounts.Kept.{AccountsStand, PotsAre, ContractIs}
use Rattle.office_machine.proofs.Accounts.Joins.{outstanding-own}
use Rattle.office_machine.proofs.Passed.{none_holds, not_false, not_both, at_least, witness, test_of, neither}
use Rattle.office_machine.proofs.Accounts.Entered.{not_taken, contracts_are, no_contract_are, gains, losses, payments}
use Rattle.office_machine.proofs.Commands.Lawful.{Lawful, Moving}
use Rattle.office_machine.proofs.Parents.SpokenOf.{of_contract}
use Rattle.office_machine.proofs.FateLaws.Views.{View}
use Rattle.office_machine.proofs.FateLaws.Seen.{seen, IsQuiet}
use Rattle.office_machine.proofs.FateLaws.FatesHold.{Keeps, given}
use Rattle.office_machine.proofs.Worlds.WorldsPut.{IsPlain, plain_pairs}
use Rattle.office_machine.proofs.Rows.Keyed as keyed
use Rattle.office_machine.proofs.Commands.Pay.Gentle.{pay_gently}

-- a payment keeps the accounts
module _ (readings : Readings) (xs : List Given) (s : Tables) (moment : ℕ) (caller : Caller) (c : ℕ) (entry : List ℕ) (amount : ℕ) (kept : AccountsStand xs s) (order : IsSorted s) where
  abbrev x : Given
  x = record { before = s; moment = moment; caller = caller; command = commands.Pay c entry amount }

  module _ (r : ContractRow) (l : LotRow) (n : NoticeRow) (is : contract_at c s ≡ Some r) (lot : lot_at (r.notice, r.lot) s ≡ Some l) (notice : notice_at r.notice s ≡ Some n)
      (new : find_entry s.entries (c, entry) ≡ None) (enough : amount ≤ outstanding s.entries r) where
    abbrev row : EntryRow
    row = payment_row (time_of x) r entry amount

    abbrev s' : Tables
    s' = record s { entries = put_entry s.entries row }

    number : r.contract ≡ c
    number = found_key keyed.contracts s.contracts c r is

    contract_is : ContractIs xs s c r
    contract_is = kept.contracts c r is

    -- the line of the move is that of the contract's lot
    line : line_in (lot_of_contract (contract_at c s) s) ≡ l.line
    line = ap line_in (ap (λ o. lot_of_contract o s) is ∙ lot)

    new_here : find_entry s.entries (r.contract, entry) ≡ None
    new_here = ap (λ c. find_entry s.entries (c, entry)) number ∙ new

    zero_at : (b : Bool) → ◌≡◌ {A = ℕ} 0 (cond b 0 0)
    zero_at true = refl
    zero_at false = refl

    within : minus s.entries r + amount ≤ plus s.entries r + 0
    within = omega (arith, enough, contract_is.within)

    moved_of : (q : List ℕ) → cond (same_id (line_in (lot_of_contract (contract_at c s) s)) q) amount 0 ≡ cond (same_id l.line q) amount 0
    moved_of q = ap (λ n. cond (same_id n q) amount 0) line

    pots : (q : List ℕ) → PotsAre (moves (x ∷ xs)) s' q
    pots q = record {
      appropriation_is = omega (arith, old.appropriation_is);
      free_is = omega (arith, old.free_is);
      reserved_is = omega (arith, old.reserved_is);
      gains_are = omega (arith, old.gains_are, gains x xs s kept order c r l row is lot number new_here (λ n. zero_at (same_number c n)) (λ n. refl) within q, zero_at (same_id l.line q));
      losses_are = omega (arith, old.losses_are, moved_of q, losses x xs s kept order c r l row is lot number new_here (λ n. zero_at (same_number c n)) (λ n. refl) within q);
      paid_is = omega (arith, old.paid_is, moved_of q, payments x xs s kept order c r l row is lot number new_here (λ n. zero_at (same_number c n)) (λ n. refl) within q);
      none_spent = omega (arith, old.none_spent);
    }
      where
        old : PotsAre (moves xs) s q
        old = kept.pots q

    entered_keeps : AccountsStand (x ∷ xs) s'
    entered_keeps = record {
      pots = pots;
      lots = kept.lots;
      awards = λ a w h. let old = kept.awards a w h in record { drawn = old.drawn; of_lot = old.of_lot };
      one_active = kept.one_active;
      contracts = contracts_are x xs s kept order c r l row is lot number new_here (λ n. zero_at (same_number c n)) (λ n. refl) within s';
      no_contract = no_contract_are x xs s kept order c r l row is lot number new_here (λ n. zero_at (same_number c n)) (λ n. refl) within s';
    }

    effect_is : pay_puts (record { contract = Some r; entries = []; notice = Some n; clock = s.clock }) (time_of x) entry amount ≡ effect readings x
    effect_is = λ i. pay_puts (record { contract = sym is i; entries = []; notice = (sym (ap (λ o. notice_of_contract o s) is ∙ notice) i); clock = s.clock }) (time_of x) entry amount

    keeps : AccountsStand (x ∷ xs) (after_puts (effect readings x) s)
    keeps = subst (λ ps. AccountsStand (x ∷ xs) (after_puts ps s)) effect_is
        (kept_aside (x ∷ xs) (puts.Notice (with_next_release n) ∷ clock_put s.clock (time_of x) ∷ []) s' (tt, (omega arith, tt)) entered_keeps)

  module _ (have : HaveParents s s) (allowed : first_of (command_tests x) ≡ None) where
    passes : AllByRecursion (λ (test : Bool × Refusal). test.0 ≡ false) (command_tests x)
    passes = none_holds (command_tests x) allowed

    found_contract : (r : ContractRow) × (contract_at c s ≡ Some r)
    found_contract = witness (contract_at c s) (not_false _ passes.0)

    pub pay_keeps : AccountsStand (x ∷ xs) (after_puts (effect readings x) s)
    pay_keeps =
        let r = found_contract.0 in
        let is = found_contract.1 in
        let of = have.contracts c r is in
        let lot = witness _ of.lot in
        let notice = witness _ of.notice in
        let runs : is_some r.ended ≡ false = test_of has_ended (contract_at c s) r is false passes.1.1.1.0 in
        let beyond = not_both _ _ (test_of (is_beyond (entries_of_contract c s) amount) (contract_at c s) r is false passes.1.1.0) runs in
        let own = outstanding-own s.entries c r (found_key keyed.contracts s.contracts c r is) in
        let left = at_least _ _ beyond in
        keeps r lot.0 notice.0 is lot.1 notice.1 (not_taken s.entries c entry passes.1.0) (omega (arith, left, own))

-- the puts touch no tender and no security
quiet_puts : (V : View) (clock : ClockRow) (t : ℕ) (c : Option ContractRow) (n : Option NoticeRow) (entry : List ℕ) (amount : ℕ) → Stands V n
    → AllByRecursion (IsQuiet V clock.receipts) (pay_puts (record { contract = c; entries = []; notice = n; clock = clock }) t entry amount)
quiet_puts V clock t (Some c) (Some n) entry amount h = (tt, (h n refl, (refl, tt)))
quiet_puts V clock t None _ entry amount h = tt
quiet_puts V clock t (Some c) None entry amount h = tt

-- the command takes no tender in, and decides no tender and no security
fates_kept : (readings : Readings) (contract : ℕ) (entry : List ℕ) (amount : ℕ) → Keeps readings (Pay contract entry amount)
fates_kept readings contract entry amount xs t m caller kept own allowed =
    kept_after readings (given t m caller (Pay contract entry amount) ∷ xs) _ t
    (quiet_puts (seen t) t.clock (max m t.clock.moment) (contract_at contract t) (notice_of_contract (contract_at contract t) t) entry amount (λ n found. contract_notice t (contract_at contract t) n found))
    (one_more readings xs (given t m caller (Pay contract entry amount)) t kept refl (λ r. refl) (λ s. refl))

module _ (s u : Tables) (have : HaveParents s s) (g : Grows s u) where
  -- the rows that its rows refer to exist
  parents_of : (clock : ClockRow) (t contract : ℕ) (c : Option ContractRow) (n : Option NoticeRow) (entry : List ℕ) (amount : ℕ) → contract_at contract s ≡ c → AllParents u (pay_puts (record { contract = c; entries = []; notice = n; clock = clock }) t entry amount)
  parents_of clock t contract (Some c) (Some n) entry amount is = (record { contract = entry_has s u have g contract c is }, (tt, (tt, tt)))
  parents_of clock t contract None n entry amount is = tt
  parents_of clock t contract (Some c) None entry amount is = tt

-- in both worlds the puts are the same
plain : (clock : ClockRow) (t : ℕ) (c : Option ContractRow) (n : Option NoticeRow) (entry : List ℕ) (amount : ℕ) → AllByRecursion IsPlain (pay_puts (record { contract = c; entries = []; notice = n; clock = clock }) t entry amount)
plain clock t (Some c) (Some n) entry amount = (tt, (tt, (tt, tt)))
plain clock t None n entry amount = tt
plain clock t (Some c) None entry amount = tt

-- the contract's notice exists
none_lacking : (s : Tables) → HaveParents s s → (contract : ℕ) (o : Option ContractRow) → contract_at contract s ≡ o → pay_lacks (record { contract = o; entries = []; notice = notice_of_contract o s; clock = s.clock }) ≡ false
none_lacking s have contract None is = refl
none_lacking s have contract (Some c) is = ap not (have.contracts contract c is).notice

pub pay : (contract : ℕ) (entry : List ℕ) (amount : ℕ) → Lawful (Pay contract entry amount)
pay contract entry amount = record {
  accounts = Moving (λ readings xs s moment caller kept order have own allowed. pay_keeps readings xs s moment caller contract entry amount kept order have allowed);
  fates = λ readings. fates_kept readings contract entry amount;
  tail = λ readings s moment caller have allowed.
      let tests = none_holds (pay_tests (pay_rows s contract) entry amount) allowed in
      let of = of_contract s have contract (not_false _ tests.0) in
      moved refl (λ i. pay_puts (record { contract = of.is i; entries = []; notice = of.notice i; clock = s.clock }) (max moment s.clock.moment) entry amount)
      (front (puts.Entry _ ∷ []) (refl, tt)
      (on_contract contract of refl (neither _ (has_all_releases (notice_of_contract (contract_at contract s) s)) tests.1.1.1.1.0).1));
  parents = λ readings s moment caller order have registered may allowed u grown later. parents_of s u have grown s.clock _ contract (contract_at contract s) (notice_of_contract (contract_at contract s) s) entry amount refl;
  lacks = λ xs s moment caller whole allowed. none_lacking s whole.parents contract (contract_at contract s) refl;
  alike = λ th W s es' ss' all seals readings t caller quiet.
      plain_pairs th W (pay_puts (record { contract = contract_at contract s; entries = []; notice = (notice_of_contract (contract_at contract s) s); clock = s.clock }) t entry amount) (plain s.clock t (contract_at contract s) (notice_of_contract (contract_at contract s) s) entry amount);
  gentle = pay_gently contract entry amount;
}
