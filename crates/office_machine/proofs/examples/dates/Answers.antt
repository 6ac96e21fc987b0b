use Rattle.office_machine.proofs.Worked.Dates.{dates_worked}
use Rattle.office_machine.proofs.examples.dates.Goals as goal

pub returns : goal.returns
returns c = dates_worked
