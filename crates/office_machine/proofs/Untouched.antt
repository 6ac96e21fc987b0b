-- A law that reads only some tables is kept by each command that touches none of them.
use Rattle.office_machine.proofs.Names.{◌≡◌, ℕ, false, max, List, None, list_any, AllByRecursion, Caller, Command, first_of, Tables, Put, Given, Means, Reaches, command_tests, effect, published_for}
use Rattle.office_machine.proofs.Commands.{lawful}
use Rattle.office_machine.proofs.Commands.Footprint.{TableName, Reads, on-others, touches}
use Rattle.office_machine.proofs.Commands.Lawful.{given}
use Rattle.office_machine.proofs.Commands.Tail.{HasTail, bond_for, is_touched}
use Rattle.office_machine.proofs.Parents.ParentsThere.{parents_there}

module _ (means : Means) (xs : List Given) (s : Tables) (moment : ℕ) (caller : Caller) (reached : Reaches means xs s) where
  -- the puts of an accepted command in a reached office
  pub tail_of : (command : Command) → first_of (command_tests (given s moment caller command)) ≡ None
      → HasTail s (max moment s.clock.moment) (touches command) (published_for s command) (bond_for s command) (effect means.readings (given s moment caller command))
  tail_of command allowed = (lawful command).tail means.readings s moment caller (parents_there means xs s reached) allowed

  -- a command that touches none of the tables that a law reads keeps it
  pub untouched : (P : Put → Type 0) (names : List TableName) → Reads names P → (command : Command) → list_any (is_touched (touches command)) names ≡ false
      → first_of (command_tests (given s moment caller command)) ≡ None → AllByRecursion P (effect means.readings (given s moment caller command))
  untouched P names law command off allowed =
      on-others P names law (is_touched (touches command)) off (effect means.readings (given s moment caller command)) (tail_of command allowed).touched
