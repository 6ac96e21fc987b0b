use Rattle.ocds_merge.proofs.Names.{◌≡◌, ◌≤◌, ℕ, length, scan, in_string}
use Rattle.ocds_merge.proofs.scan.after_string.Given as goal

abbrev pub invariant-loop-first : goal.invariant-loop-first
invariant-loop-first l = record {
  scans : (n : ℕ) → scan n in_string l.left ≡ scan n in_string l.text;
  shorter : length l.left ≤ length l.text;
}

abbrev pub decreases-loop-first : goal.decreases-loop-first
decreases-loop-first l = length l.left
