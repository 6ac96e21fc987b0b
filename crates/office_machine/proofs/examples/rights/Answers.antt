use Rattle.office_machine.proofs.Worked.Rights.{rights_worked}
use Rattle.office_machine.proofs.examples.rights.Goals as goal

pub returns : goal.returns
returns c = rights_worked
