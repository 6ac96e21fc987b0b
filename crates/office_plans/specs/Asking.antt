-- The input of a step of the specification: the office before it, a moment, a caller and a command.
use Rattle.std.specs.Prelude.{ℕ}
use Rattle.office_commands.specs.declared.command.Caller.{Caller}
use Rattle.office_commands.specs.declared.commands.Command.{Command}
use Rattle.office_base.specs.Tables.{Tables}
use Rattle.office_machine.specs.Machine.{Given}
use Rattle.tender_core.specs.declared.asking.Asking.{Asking}

abbrev pub given : Tables → ℕ → Caller → Command → Given
given s moment caller command = record { before = s; moment = moment; caller = caller; command = command }

abbrev pub given_by : Asking → Tables → Command → Given
given_by asking s command = given s asking.moment asking.caller.now command
