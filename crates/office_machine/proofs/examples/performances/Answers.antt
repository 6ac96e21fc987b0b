use Rattle.office_machine.proofs.Worked.Performances.{performances_worked}
use Rattle.office_machine.proofs.examples.performances.Goals as goal

pub returns : goal.returns
returns c = performances_worked
