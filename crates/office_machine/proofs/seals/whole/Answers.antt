use Rattle.office_machine.proofs.Worlds.WholeRuns.{whole_runs}
use Rattle.office_machine.proofs.seals.whole.Goals as goal

pub returns : goal.returns
returns c = whole_runs
