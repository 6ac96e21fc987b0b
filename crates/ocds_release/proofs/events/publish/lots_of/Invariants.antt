use Rattle.ocds_release.proofs.Names.{◌≡◌, map, take, view, published_lot}
use Rattle.ocds_release.proofs.events.publish.lots_of.Given as goal

abbrev pub invariant-loop-lot : goal.invariant-loop-lot
invariant-loop-lot l = map view l.list.items ≡ map (published_lot l.currency) (map (λ r. r.now) (take l.lot-index l.lots))
