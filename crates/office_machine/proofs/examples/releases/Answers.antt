use Rattle.office_machine.proofs.Worked.Releases.{releases_worked}
use Rattle.office_machine.proofs.examples.releases.Goals as goal

pub returns : goal.returns
returns c = releases_worked
