-- The rule of each command, one file each.
pub mod Import
pub mod Register
pub mod Publish
pub mod AmendNotice
pub mod Cancel
pub mod Open
pub mod Present
pub mod Modify
pub mod Withdraw
pub mod Examine
pub mod Award
pub mod Fail
pub mod Sign
pub mod AmendContract
pub mod Pay
pub mod End
use Rattle.office_commands.specs.declared.commands.Command.TheVariants as commands
use Rattle.office_commands.specs.declared.commands.Command.{Command}
use Rattle.office_machine.specs.Rule.{Rule}
use Rattle.office_machine.specs.Commands.Import.{import_budget}
use Rattle.office_machine.specs.Commands.Register.{register}
use Rattle.office_machine.specs.Commands.Publish.{publish}
use Rattle.office_machine.specs.Commands.AmendNotice.{amend_notice}
use Rattle.office_machine.specs.Commands.Cancel.{cancel}
use Rattle.office_machine.specs.Commands.Open.{open_tenders}
use Rattle.office_machine.specs.Commands.Present.{present}
use Rattle.office_machine.specs.Commands.Modify.{modify}
use Rattle.office_machine.specs.Commands.Withdraw.{withdraw}
use Rattle.office_machine.specs.Commands.Examine.{examine}
use Rattle.office_machine.specs.Commands.Award.{award}
use Rattle.office_machine.specs.Commands.Fail.{fail}
use Rattle.office_machine.specs.Commands.Sign.{sign}
use Rattle.office_machine.specs.Commands.AmendContract.{amend_contract}
use Rattle.office_machine.specs.Commands.Pay.{pay}
use Rattle.office_machine.specs.Commands.End.{end_contract}

abbrev pub rule_of : Command → Rule
rule_of (commands.Import batch rows) = import_budget batch rows
rule_of (commands.Register tenderer name address key) = register tenderer name address key
rule_of (commands.Publish notice content) = publish notice content
rule_of (commands.AmendNotice notice deadline rationale) = amend_notice notice deadline rationale
rule_of (commands.Cancel notice rationale) = cancel notice rationale
rule_of (commands.Open notice) = open_tenders notice
rule_of (commands.Present notice lot security bytes) = present notice lot security bytes
rule_of (commands.Modify receipt bytes) = modify receipt bytes
rule_of (commands.Withdraw receipt) = withdraw receipt
rule_of (commands.Examine receipt responsive quality) = examine receipt responsive quality
rule_of (commands.Award notice lot) = award notice lot
rule_of (commands.Fail award) = fail award
rule_of (commands.Sign award named) = sign award named
rule_of (commands.AmendContract contract entry kind amount rationale) = amend_contract contract entry kind amount rationale
rule_of (commands.Pay contract entry amount) = pay contract entry amount
rule_of (commands.End contract how) = end_contract contract how
