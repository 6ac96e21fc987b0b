-- The kind of each command, and the rule that every command fulfils by its type.
use Rattle.std.specs.Prelude.{◌≡◌, false}
use Rattle.office_commands.specs.Identified.{repeats_id}
use Rattle.office_commands.specs.Lots.{lot_id}
use Rattle.office_commands.specs.declared.commands.Command.{Command}
use Rattle.office_commands.specs.declared.commands.Command.TheVariants as commands
use Rattle.office_commands.specs.declared.command.CommandKind.{CommandKind}
use Rattle.office_commands.specs.declared.command.CommandKind.TheVariants as kinds

-- the kind of a command, which is its route without parameters and content
abbrev pub kind_of : Command → CommandKind
kind_of (commands.Import batch rows) = kinds.Import
kind_of (commands.Register tenderer name address key) = kinds.Register
kind_of (commands.Publish notice content) = kinds.Publish
kind_of (commands.AmendNotice notice deadline rationale) = kinds.AmendNotice
kind_of (commands.Cancel notice rationale) = kinds.Cancel
kind_of (commands.Open notice) = kinds.Open
kind_of (commands.Present notice lot security sealed) = kinds.Present
kind_of (commands.Modify receipt sealed) = kinds.Modify
kind_of (commands.Withdraw receipt) = kinds.Withdraw
kind_of (commands.Examine receipt responsive quality) = kinds.Examine
kind_of (commands.Award notice lot) = kinds.Award
kind_of (commands.Fail award) = kinds.Fail
kind_of (commands.Sign award security) = kinds.Sign
kind_of (commands.AmendContract contract entry kind amount rationale) = kinds.AmendContract
kind_of (commands.Pay contract entry amount) = kinds.Pay
kind_of (commands.End contract how) = kinds.End

-- the lots of a notice to be published have different identifiers; other commands have no such rule
abbrev pub IsCommand : Command → Type 0
IsCommand (commands.Publish notice content) = repeats_id lot_id content.lots ≡ false
IsCommand command = Unit {0}
