use Rattle.office_machine.proofs.Worked.Withdrawing.{withdrawing_worked}
use Rattle.office_machine.proofs.examples.withdrawing.Goals as goal

pub returns : goal.returns
returns c = withdrawing_worked
