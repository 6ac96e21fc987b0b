use Rattle.office_machine.proofs.Worked.Receiving.{receiving_worked}
use Rattle.office_machine.proofs.examples.receiving.Goals as goal

pub returns : goal.returns
returns c = receiving_worked
