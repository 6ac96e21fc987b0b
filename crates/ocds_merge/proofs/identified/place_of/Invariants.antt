use Rattle.ocds_merge.proofs.Names.{map, take, view, Lacks}
use Rattle.ocds_merge.proofs.identified.place_of.Given as goal

abbrev pub invariant-loop-place : goal.invariant-loop-place
invariant-loop-place l = Lacks l.id (take l.place (map view l.items))
