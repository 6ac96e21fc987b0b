-- Which commands publish a release.
use Rattle.std.specs.Prelude.{ℕ, List, Option}
use Rattle.office_commands.specs.declared.commands.Command.{Command}
use Rattle.office_base.specs.Tables.{Tables}
use Rattle.office_machine.specs.Rule.{notice_of}
use Rattle.office_machine.specs.Commands.{rule_of}

-- The notice for which a command publishes a release, if it publishes one.
abbrev pub published_for : Tables → Command → Option (List ℕ)
published_for s command = notice_of (rule_of command).publishes s.awards s.contracts
