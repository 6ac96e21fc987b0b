use Rattle.ocds_release.proofs.Names.{◌≡◌, ◌++◌, map, take, view, published_item}
use Rattle.ocds_release.proofs.events.publish.push_items.Given as goal

abbrev pub invariant-loop-item : goal.invariant-loop-item
invariant-loop-item l = map view l.list.items ≡ map view l.fn.list.items ++ map (published_item l.lot.id) (take l.item-index l.lot.items)
