use Rattle.office_machine.proofs.Worked.Securities.{securities_worked}
use Rattle.office_machine.proofs.examples.securities.Goals as goal

pub returns : goal.returns
returns c = securities_worked
