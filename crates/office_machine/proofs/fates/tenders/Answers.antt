use Rattle.office_machine.proofs.FateLaws.FatesKept.{tenders_kept}
use Rattle.office_machine.proofs.fates.tenders.Goals as goal

pub returns : goal.returns
returns c = tenders_kept
