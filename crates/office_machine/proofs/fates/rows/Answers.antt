use Rattle.office_machine.proofs.FateLaws.RowsFolded.{rows_folded}
use Rattle.office_machine.proofs.fates.rows.Goals as goal

pub returns : goal.returns
returns c = rows_folded
