use Rattle.office_ledger.proofs.Names.{state}
use Rattle.office_ledger.proofs.Laws.{lots_begun}
use Rattle.office_ledger.proofs.select.lots_are_begun.Goals as goal

pub returns : goal.returns
returns g c held t line rows was begun = lots_begun (state g.S.Store held) t was line rows begun
