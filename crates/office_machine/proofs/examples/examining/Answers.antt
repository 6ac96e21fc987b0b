use Rattle.office_machine.proofs.Worked.Examining.{examining_worked}
use Rattle.office_machine.proofs.examples.examining.Goals as goal

pub returns : goal.returns
returns c = examining_worked
