use Rattle.office_machine.proofs.Worked.Fates.{fates_worked}
use Rattle.office_machine.proofs.examples.fates.Goals as goal

pub returns : goal.returns
returns c = fates_worked
