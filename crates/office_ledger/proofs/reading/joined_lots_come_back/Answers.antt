use Rattle.office_ledger.proofs.BackAgain.{lots_come_back}
use Rattle.office_ledger.proofs.reading.joined_lots_come_back.Goals as goal

pub returns : goal.returns
returns c = lots_come_back
