use Rattle.ocds_release.proofs.Names.{◌≡◌, ◌≤◌, map, drop, length, lots_in_order}
use Rattle.ocds_release.proofs.lots_in_order.in_order.Given as goal

abbrev pub invariant-loop-left : goal.invariant-loop-left
invariant-loop-left l = record {
  within : l.left ≤ length l.lots;
  sorted : map (λ r. r.now) l.order.items ≡ lots_in_order (drop l.left l.lots);
}

abbrev pub decreases-loop-left : goal.decreases-loop-left
decreases-loop-left l = l.left
