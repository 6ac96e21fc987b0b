use Rattle.ocds_merge.proofs.Names.{map, take, view, HaveDistinctIds}
use Rattle.ocds_merge.proofs.list_text.distinct_places.Given as goal

abbrev pub invariant-loop-place : goal.invariant-loop-place
invariant-loop-place l = HaveDistinctIds (take l.place (map view l.items))
