use Rattle.office_machine.proofs.Worked.Opening.{opening_worked}
use Rattle.office_machine.proofs.examples.opening.Goals as goal

pub returns : goal.returns
returns c = opening_worked
