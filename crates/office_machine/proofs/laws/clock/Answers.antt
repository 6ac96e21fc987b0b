use Rattle.office_machine.proofs.Releases.ClockSet.{clock_set, never_back}
use Rattle.office_machine.proofs.laws.clock.Goals as goal

pub returns-clause-set : goal.returns-clause-set
returns-clause-set c = clock_set

pub returns-clause-forward : goal.returns-clause-forward
returns-clause-forward c = never_back
