use Rattle.office_machine.proofs.FateLaws.PerformancesKept.{performances_there}
use Rattle.office_machine.proofs.Parents.ParentsThere.{parents_there}
use Rattle.office_machine.proofs.laws.parents.Goals as goal

pub returns-clause-there : goal.returns-clause-there
returns-clause-there c = parents_there

pub returns-clause-performances : goal.returns-clause-performances
returns-clause-performances c = performances_there
