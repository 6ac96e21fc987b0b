use Rattle.office_machine.proofs.Worked.Amending.{amending_worked}
use Rattle.office_machine.proofs.examples.amending.Goals as goal

pub returns : goal.returns
returns c = amending_worked
