-- Every accepted command keeps the accounts, so they are right in every reached office.
use Rattle.office_machine.proofs.Names.{◌≡◌, ℕ, List, [], ◌∷◌, Some, None, refl, max, Caller, Command, row_at, first_of, Tables, IsSorted, no_tables, after_puts, IsCommand, Means, Given, Reaches, tests_for, puts_for, with_merges, HaveParents, Readings, CompiledRow, AreBalanced}
use Rattle.office_machine.proofs.Accounts.Aside.{kept_published}
use Rattle.office_machine.proofs.Accounts.Balance.{balanced}
use Rattle.office_machine.proofs.Accounts.Kept.{AccountsStand}
use Rattle.office_machine.proofs.Commands.{lawful}
use Rattle.office_machine.proofs.Commands.Footprint.{touches}
use Rattle.office_machine.proofs.Accounts.Idle.{idle_keeps}
use Rattle.office_machine.proofs.Commands.Lawful.{given, KeepsBooks, Idle, Moving}
use Rattle.office_machine.proofs.Parents.ParentsThere.{parents_there}
use Rattle.office_machine.proofs.Runs.{along}
use Rattle.office_machine.proofs.Passed.{allowed_by}
use Rattle.office_machine.proofs.Rows.SortedTables.{sorted}

start : AccountsStand [] no_tables
unfolding row_at
start = record {
  pots = λ q. record { appropriation_is = refl; free_is = refl; reserved_is = refl; gains_are = refl; losses_are = refl; paid_is = refl; none_spent = refl };
  lots = λ key lot found. absurd (let none : None ≡ Some lot = found in cc);
  awards = λ number award found. absurd (let none : None ≡ Some award = found in cc);
  one_active = λ a b w v found. absurd (let none : None ≡ Some w = found in cc);
  contracts = λ number c found. absurd (let none : None ≡ Some c = found in cc);
  no_contract = λ number none. record { came_in = refl; went_out = refl; raised = refl; lessened = refl; paid_out = refl };
}

-- merges of releases beside the office don't change the accounts
kept_beside : (merges : List CompiledRow) (xs : List Given) (s : Tables) → AccountsStand xs s → AccountsStand xs (with_merges merges s)
kept_beside merges xs s k = record {
  pots = λ q. let p = k.pots q in record { appropriation_is = p.appropriation_is; free_is = p.free_is; reserved_is = p.reserved_is; gains_are = p.gains_are; losses_are = p.losses_are; paid_is = p.paid_is; none_spent = p.none_spent };
  lots = k.lots;
  awards = λ number award found. let a = k.awards number award found in record { drawn = a.drawn; of_lot = a.of_lot };
  one_active = k.one_active;
  contracts = λ number c found. let r = k.contracts number c found in record { of_award = r.of_award; running = r.running; within = r.within; came_in = r.came_in; went_out = r.went_out };
  no_contract = λ number none. let n = k.no_contract number none in record { came_in = n.came_in; went_out = n.went_out; raised = n.raised; lessened = n.lessened; paid_out = n.paid_out };
}

-- every accepted command keeps the accounts
keeps : (readings : Readings) (xs : List Given) (s : Tables) (moment : ℕ) (caller : Caller) (command : Command) → AccountsStand xs s → IsSorted s → HaveParents s s → IsCommand command
    → first_of (tests_for s (max moment s.clock.moment) caller command) ≡ None
    → AccountsStand (given s moment caller command ∷ xs) (after_puts (puts_for readings s (max moment s.clock.moment) caller command) s)
keeps readings xs s moment caller command kept order have own allowed = by (lawful command).accounts
  where
    by : KeepsBooks command → AccountsStand (given s moment caller command ∷ xs) (after_puts (puts_for readings s (max moment s.clock.moment) caller command) s)
    by (Idle apart idle) = idle_keeps (given s moment caller command) (touches command) apart _ ((lawful command).tail readings s moment caller have allowed) xs (idle s moment caller xs) kept
    by (Moving moves) = moves readings xs s moment caller kept order have own allowed

pub all_kept : (means : Means) (xs : List Given) (s : Tables) → Reaches means xs s → AccountsStand xs s
all_kept means = along means AccountsStand start (λ merges in_order xs s of_notices. kept_beside merges xs s)
    (λ xs x accepted kept. kept_published means x xs
    (keeps means.readings xs x.before x.moment x.caller x.command kept (sorted means xs x.before accepted.reached) (parents_there means xs x.before accepted.reached) accepted.given.0 (allowed_by x accepted.allowed)))

pub lines_balanced : (means : Means) (xs : List Given) (s : Tables) → Reaches means xs s → AreBalanced xs s
lines_balanced means xs s reached line = balanced xs s (all_kept means xs s reached) (sorted means xs s reached) line
