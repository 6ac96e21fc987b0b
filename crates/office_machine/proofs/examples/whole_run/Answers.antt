use Rattle.office_machine.proofs.Worked.WholeRun.{whole_run_worked}
use Rattle.office_machine.proofs.examples.whole_run.Goals as goal

pub returns : goal.returns
returns c = whole_run_worked
