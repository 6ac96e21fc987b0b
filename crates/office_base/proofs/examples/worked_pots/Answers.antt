use Rattle.office_base.proofs.Names.{refl}
use Rattle.office_base.proofs.examples.worked_pots.Goals as goal

pub returns : goal.returns
unfolding Rattle.office_base.specs.Rows.row_at
returns c = refl
