use Rattle.tender_core.proofs.Names.{◌≡◌, ◌++◌, map, filter, drop, is_open_lot, cancelled_lot_put}
use Rattle.tender_core.proofs.ended.push_lots.Given as goal

abbrev pub invariant-loop-row : goal.invariant-loop-row
invariant-loop-row l =
    l.made.items ++ map cancelled_lot_put (filter is_open_lot (drop l.row-index l.lots))
    ≡ l.fn.made.items ++ map cancelled_lot_put (filter is_open_lot l.lots)
