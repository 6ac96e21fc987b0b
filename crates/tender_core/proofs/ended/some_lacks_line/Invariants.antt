use Rattle.tender_core.proofs.Names.{◌≡◌, filter, drop, list_any, is_open_lot, lacks_line}
use Rattle.tender_core.proofs.ended.some_lacks_line.Given as goal

abbrev pub invariant-loop-row : goal.invariant-loop-row
invariant-loop-row l =
    list_any (lacks_line l.lines) (filter is_open_lot (drop l.row-index l.lots)) ≡ list_any (lacks_line l.lines) (filter is_open_lot l.lots)
