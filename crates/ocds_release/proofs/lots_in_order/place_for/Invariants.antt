use Rattle.ocds_release.proofs.Names.{map, take, AreEarlier}
use Rattle.ocds_release.proofs.lots_in_order.place_for.Given as goal

abbrev pub invariant-loop-place : goal.invariant-loop-place
invariant-loop-place l = AreEarlier l.id (take l.place (map (λ r. r.now.id) l.order))
