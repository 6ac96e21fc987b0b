use Rattle.office_ledger.proofs.Names.{state}
use Rattle.office_ledger.proofs.Laws.{lots_shown}
use Rattle.office_ledger.proofs.select.lots_are_shown.Goals as goal

pub returns : goal.returns
returns g c old new t line rows was shown = lots_shown (state g.S.Store old) t was line (state g.S.Store new) rows shown
