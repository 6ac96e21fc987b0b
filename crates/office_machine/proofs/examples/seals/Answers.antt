use Rattle.office_machine.proofs.Worked.Seals.{seals_worked}
use Rattle.office_machine.proofs.examples.seals.Goals as goal

pub returns : goal.returns
returns c = seals_worked
