-- The facts about one command from which the laws of the office follow.
use Rattle.office_machine.proofs.Names.{◌≡◌, ℕ, true, false, max, List, ◌∷◌, None, Caller, Command, first_of, Tables, IsSorted, after_puts, Readings, IsCommand, Given, IsRegistered, may_give, tests_for, puts_for, HaveParents, published_for, rule_of}
use Rattle.office_machine.proofs.Accounts.Aside.{IsIdle}
use Rattle.office_machine.proofs.Commands.Footprint.{touches}
use Rattle.office_machine.proofs.Accounts.Idle.{touches_books}
use Rattle.office_machine.proofs.Accounts.Kept.{AccountsStand}
use Rattle.office_machine.proofs.FateLaws.FatesHold.{Keeps}
use Rattle.office_machine.proofs.NoParents.Gentle.{PutsGently}
use Rattle.office_machine.proofs.Parents.ParentsPut.{Grows, AllParents}
use Rattle.office_machine.proofs.Parents.Whole.{IsWhole}
use Rattle.office_machine.proofs.Commands.Tail.{HasTail, bond_for}
use Rattle.office_machine.proofs.Worlds.WorldsStep.{PutsAlike}

abbrev pub given : Tables → ℕ → Caller → Command → Given
given s moment caller command = record { before = s; moment = moment; caller = caller; command = command }

-- the command touches no book and moves nothing, or it is shown to keep the books
pub data KeepsBooks (command : Command) : Type 0 where
  Idle : touches_books (touches command) ≡ false → ((s : Tables) (moment : ℕ) (caller : Caller) (xs : List Given) → IsIdle (given s moment caller command) xs) → KeepsBooks command
  Moving : ((readings : Readings) (xs : List Given) (s : Tables) (moment : ℕ) (caller : Caller) → AccountsStand xs s → IsSorted s → HaveParents s s → IsCommand command
      → first_of (tests_for s (max moment s.clock.moment) caller command) ≡ None
      → AccountsStand (given s moment caller command ∷ xs) (after_puts (puts_for readings s (max moment s.clock.moment) caller command) s)) → KeepsBooks command

pub record Lawful (command : Command) : Type 0 where
  -- the command keeps the accounts
  pub accounts : KeepsBooks command
  -- the command keeps the fates of tenders and securities
  pub fates : (readings : Readings) → Keeps readings command
  -- the command puts rows of its tables, the clock at its moment and, if it publishes, its notice with one release more
  pub tail : (readings : Readings) (s : Tables) (moment : ℕ) (caller : Caller) → HaveParents s s
      → first_of (tests_for s (max moment s.clock.moment) caller command) ≡ None
      → HasTail s (max moment s.clock.moment) (touches command) (published_for s command) (bond_for s command) (puts_for readings s (max moment s.clock.moment) caller command)
  -- the rows that its rows refer to exist in any tables that have all rows from before it and after it
  pub parents : (readings : Readings) (s : Tables) (moment : ℕ) (caller : Caller) → IsSorted s → HaveParents s s → IsRegistered caller s.tenderers → may_give caller command ≡ true
      → first_of (tests_for s (max moment s.clock.moment) caller command) ≡ None → (u : Tables) → Grows s u
      → Grows (after_puts (puts_for readings s (max moment s.clock.moment) caller command) s) u → AllParents u (puts_for readings s (max moment s.clock.moment) caller command)
  -- in a reached office the command finds the rows that it needs
  pub lacks : (xs : List Given) (s : Tables) (moment : ℕ) (caller : Caller) → IsWhole xs s → first_of (tests_for s (max moment s.clock.moment) caller command) ≡ None
      → (rule_of command).lacks s ≡ false
  -- two offices that differ only in the bytes that a tenderer seals remain alike
  pub alike : PutsAlike command
  -- over any tables, its rows make no missing parent of a row, and replace no row of another owner
  pub gentle : PutsGently command
