use Rattle.ocds_merge.proofs.Names.{◌≡◌, ◌+◌, ◌≤◌, length, scan}
use Rattle.ocds_merge.specs.Inside.Scan.{between}
use Rattle.ocds_merge.proofs.scan.after_value.Given as goal

abbrev pub invariant-loop-first : goal.invariant-loop-first
invariant-loop-first l = record {
  scans : scan l.depth between l.left ≡ scan 0 between l.text;
  shorter : length l.left ≤ length l.text;
  deep : l.depth + length l.left ≤ length l.text;
}

abbrev pub decreases-loop-first : goal.decreases-loop-first
decreases-loop-first l = length l.left
