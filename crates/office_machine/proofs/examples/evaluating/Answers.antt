use Rattle.office_machine.proofs.Worked.Evaluating.{evaluating_worked}
use Rattle.office_machine.proofs.examples.evaluating.Goals as goal

pub returns : goal.returns
returns c = evaluating_worked
