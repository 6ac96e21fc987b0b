use Rattle.office_ledger.proofs.Stored.{stored_rows_show}
use Rattle.office_ledger.proofs.select.stored_rows_show.Goals as goal

pub returns : goal.returns
returns c = stored_rows_show
