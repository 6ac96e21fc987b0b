use Rattle.office_plans.proofs.Names.{◌≡◌, ◌++◌, map, filter, drop, lot_name, is_open_lot}
use Rattle.office_plans.proofs.events.open_lots.Given as goal

abbrev pub invariant-loop-lot : goal.invariant-loop-lot
invariant-loop-lot l = l.ids.items ++ map lot_name (filter is_open_lot (drop l.lot-index l.lots)) ≡ map lot_name (filter is_open_lot l.lots)
