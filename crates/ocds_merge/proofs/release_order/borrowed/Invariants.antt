use Rattle.ocds_merge.proofs.Names.{◌≡◌, map, take, view}
use Rattle.ocds_merge.proofs.release_order.borrowed.Given as goal

abbrev pub invariant-loop-release : goal.invariant-loop-release
invariant-loop-release l = map (λ r. view r.now) l.all.items ≡ map view (take l.release-index l.releases)
