use Rattle.ocds_release.proofs.Names.{◌≡◌, ◌++◌, map, drop, view, items_of_lots}
use Rattle.ocds_release.proofs.events.publish.items_of.Given as goal

abbrev pub invariant-loop-lot : goal.invariant-loop-lot
invariant-loop-lot l = map view l.list.items ++ items_of_lots (map (λ r. r.now) (drop l.lot-index l.lots)) ≡ items_of_lots (map (λ r. r.now) l.lots)
