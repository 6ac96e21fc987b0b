use Rattle.office_base.proofs.SortedTables.{sorted-puts}
use Rattle.office_base.proofs.laws.changes_keep_order.Goals as goal

pub returns : goal.returns
returns c = sorted-puts
