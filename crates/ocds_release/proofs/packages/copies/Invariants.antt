use Rattle.ocds_release.proofs.Names.{◌≡◌, map, take, view}
use Rattle.ocds_release.proofs.packages.copies.Given as goal

abbrev pub invariant-loop-value : goal.invariant-loop-value
invariant-loop-value l = map view l.list.items ≡ map view (take l.value-index l.values)
