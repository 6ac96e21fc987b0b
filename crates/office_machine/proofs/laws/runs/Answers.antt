use Rattle.office_machine.proofs.Reached.{runs_reach, steps_reach}
use Rattle.office_machine.proofs.laws.runs.Goals as goal

pub returns-clause-steps : goal.returns-clause-steps
returns-clause-steps c = steps_reach

pub returns-clause-runs : goal.returns-clause-runs
returns-clause-runs c = runs_reach
