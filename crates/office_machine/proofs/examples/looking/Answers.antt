use Rattle.office_machine.proofs.Worked.Looking.{looking_worked}
use Rattle.office_machine.proofs.examples.looking.Goals as goal

pub returns : goal.returns
returns c = looking_worked
