use Rattle.office_machine.proofs.FateLaws.FatesKept.{securities_kept}
use Rattle.office_machine.proofs.fates.securities.Goals as goal

pub returns : goal.returns
returns c = securities_kept
