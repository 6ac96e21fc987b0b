use Rattle.office_machine.proofs.FateLaws.PerformancesKept.{performances_kept}
use Rattle.office_machine.proofs.fates.performances.Goals as goal

pub returns : goal.returns
returns c = performances_kept
