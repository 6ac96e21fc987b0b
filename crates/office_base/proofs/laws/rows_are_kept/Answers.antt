use Rattle.office_base.proofs.RowLaws.{rows_are_kept}
use Rattle.office_base.proofs.laws.rows_are_kept.Goals as goal

pub returns : goal.returns
returns g c = rows_are_kept g.met.R.Key.Ord.total g.R.Row.key_of
