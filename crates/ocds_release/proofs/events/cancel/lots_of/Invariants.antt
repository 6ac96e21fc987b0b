use Rattle.ocds_release.proofs.Names.{◌≡◌, map, take, view, cancelled_lot_data}
use Rattle.ocds_release.proofs.events.cancel.lots_of.Given as goal

abbrev pub invariant-loop-lot : goal.invariant-loop-lot
invariant-loop-lot l = map view l.list.items ≡ map cancelled_lot_data (take l.lot-index l.lots)
