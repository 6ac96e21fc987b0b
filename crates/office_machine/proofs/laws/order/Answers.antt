use Rattle.office_machine.proofs.Rows.SortedTables.{sorted}
use Rattle.office_machine.proofs.laws.order.Goals as goal

pub returns : goal.returns
returns c = sorted
