-- The laws of each command, and the lemmas for them.
pub mod AmendContract
pub mod AmendNotice
pub mod Award
pub mod Cancel
pub mod End
pub mod Examine
pub mod Fail
pub mod Footprint
pub mod Import
pub mod Lawful
pub mod Modify
pub mod Open
pub mod Ordered
pub mod Pay
pub mod Present
pub mod Publish
pub mod Register
pub mod Sign
pub mod Tail
pub mod Withdraw
use Rattle.office_machine.proofs.Names.{Command}
use Rattle.office_commands.specs.declared.commands.Command.TheVariants as commands
use Rattle.office_machine.proofs.Commands.Lawful.{Lawful as KeepsLaws}
use Rattle.office_machine.proofs.Commands.Import.{import_budget}
use Rattle.office_machine.proofs.Commands.Register.{register}
use Rattle.office_machine.proofs.Commands.Publish.{publish}
use Rattle.office_machine.proofs.Commands.AmendNotice.{amend_notice}
use Rattle.office_machine.proofs.Commands.Cancel.{cancel}
use Rattle.office_machine.proofs.Commands.Open.{open_tenders}
use Rattle.office_machine.proofs.Commands.Present.{present}
use Rattle.office_machine.proofs.Commands.Modify.{modify}
use Rattle.office_machine.proofs.Commands.Withdraw.{withdraw}
use Rattle.office_machine.proofs.Commands.Examine.{examine}
use Rattle.office_machine.proofs.Commands.Award.{award}
use Rattle.office_machine.proofs.Commands.Fail.{fail}
use Rattle.office_machine.proofs.Commands.Sign.{sign}
use Rattle.office_machine.proofs.Commands.AmendContract.{amend_contract}
use Rattle.office_machine.proofs.Commands.Pay.{pay}
use Rattle.office_machine.proofs.Commands.End.{end_contract}

-- every command keeps the laws of the office
pub lawful : (command : Command) → KeepsLaws command
lawful (commands.Import batch rows) = import_budget batch rows
lawful (commands.Register tenderer name address key) = register tenderer name address key
lawful (commands.Publish notice content) = publish notice content
lawful (commands.AmendNotice notice deadline rationale) = amend_notice notice deadline rationale
lawful (commands.Cancel notice rationale) = cancel notice rationale
lawful (commands.Open notice) = open_tenders notice
lawful (commands.Present notice lot security bytes) = present notice lot security bytes
lawful (commands.Modify receipt bytes) = modify receipt bytes
lawful (commands.Withdraw receipt) = withdraw receipt
lawful (commands.Examine receipt responsive quality) = examine receipt responsive quality
lawful (commands.Award notice lot) = award notice lot
lawful (commands.Fail award) = fail award
lawful (commands.Sign award named) = sign award named
lawful (commands.AmendContract contract entry kind amount rationale) = amend_contract contract entry kind amount rationale
lawful (commands.Pay contract entry amount) = pay contract entry amount
lawful (commands.End contract how) = end_contract contract how
