use Rattle.office_ledger.proofs.NoWrite.{join_is_no_write}
use Rattle.office_ledger.proofs.select.join_is_no_write.Goals as goal

pub returns : goal.returns
returns c schema compiled h = join_is_no_write schema compiled h
