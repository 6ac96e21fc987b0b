use Rattle.tender_core.proofs.Names.{◌≡◌, drop, find_lot}
use Rattle.tender_core.proofs.ended.ends.Given as goal

abbrev pub invariant-loop-row : goal.invariant-loop-row
invariant-loop-row l = find_lot (drop l.row-index l.lots) (l.notice, l.lot) ≡ find_lot l.lots (l.notice, l.lot)
