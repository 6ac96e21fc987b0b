use Rattle.ocds_merge.proofs.Names.{map, take, view, IsIndexOf}
use Rattle.ocds_merge.proofs.places.index_of.Given as goal

abbrev pub invariant-loop-place : goal.invariant-loop-place
invariant-loop-place l = IsIndexOf l.by_id (map view (take l.place l.items))
