use Rattle.office_ledger.proofs.Names.{state}
use Rattle.office_ledger.proofs.Laws.{join_begun}
use Rattle.office_ledger.proofs.select.join_is_begun.Goals as goal

pub returns : goal.returns
returns g c held t rows was begun = join_begun (state g.S.Store held) t was rows begun
