use Rattle.ocds_release.proofs.Names.{◌≡◌, ◌≤◌, ◌+◌, ◌*◌, drop, sum_over, estimate_of}
use Rattle.ocds_release.proofs.events.publish.estimates.Given as goal

abbrev pub invariant-loop-lot : goal.invariant-loop-lot
invariant-loop-lot l = record {
  bound : l.sum ≤ l.lot-index * 1000000000000;
  rest : l.sum + sum_over estimate_of (drop l.lot-index l.lots) ≡ sum_over estimate_of l.lots;
}
