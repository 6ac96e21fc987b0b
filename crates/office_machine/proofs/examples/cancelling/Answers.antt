use Rattle.office_machine.proofs.Worked.Cancelling.{cancelling_worked}
use Rattle.office_machine.proofs.examples.cancelling.Goals as goal

pub returns : goal.returns
returns c = cancelling_worked
