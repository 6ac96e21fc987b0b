use Rattle.office_ledger.proofs.Names.{state}
use Rattle.office_ledger.proofs.Laws.{join_shown}
use Rattle.office_ledger.proofs.select.join_is_shown.Goals as goal

pub returns : goal.returns
returns g c old new t rows was shown = join_shown (state g.S.Store old) t was (state g.S.Store new) rows shown
