use Rattle.office_ledger.proofs.Names.{refl}
use Rattle.office_ledger.proofs.examples.worked_join.Goals as goal

pub returns : goal.returns
returns c = refl
