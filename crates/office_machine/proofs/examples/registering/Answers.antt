use Rattle.office_machine.proofs.Worked.Registering.{registering_worked}
use Rattle.office_machine.proofs.examples.registering.Goals as goal

pub returns : goal.returns
returns c = registering_worked
