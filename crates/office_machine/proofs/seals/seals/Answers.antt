use Rattle.office_machine.proofs.Worlds.SealsKept.{seals_kept}
use Rattle.office_machine.proofs.seals.seals.Goals as goal

pub returns : goal.returns
returns c = seals_kept
