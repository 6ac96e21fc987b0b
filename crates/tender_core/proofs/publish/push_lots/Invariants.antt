use Rattle.tender_core.proofs.Names.{◌≡◌, ◌++◌, map, new_lot_put}
use Rattle.tender_core.proofs.publish.push_lots.Given as goal

abbrev pub invariant-loop-lot : goal.invariant-loop-lot
invariant-loop-lot l = l.made.items ++ map (new_lot_put l.notice) l.lot-iterator.rest.items ≡ l.fn.made.items ++ map (new_lot_put l.notice) l.fn.lots.items
