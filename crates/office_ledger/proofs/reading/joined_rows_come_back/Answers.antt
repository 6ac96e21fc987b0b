use Rattle.office_ledger.proofs.BackAgain.{rows_come_back}
use Rattle.office_ledger.proofs.reading.joined_rows_come_back.Goals as goal

pub returns : goal.returns
returns c = rows_come_back
