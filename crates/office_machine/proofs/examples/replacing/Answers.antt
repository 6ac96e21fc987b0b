use Rattle.office_machine.proofs.Worked.Replacing.{replacing_worked}
use Rattle.office_machine.proofs.examples.replacing.Goals as goal

pub returns : goal.returns
returns c = replacing_worked
