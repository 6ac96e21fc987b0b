use Rattle.office_machine.proofs.Worked.Refusing.{refusing_worked}
use Rattle.office_machine.proofs.examples.refusing.Goals as goal

pub returns : goal.returns
returns c = refusing_worked
