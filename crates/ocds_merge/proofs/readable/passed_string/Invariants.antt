use Rattle.ocds_merge.proofs.Names.{◌≡◌, ◌++◌, ℕ, List, length, escape}
use Rattle.ocds_merge.proofs.readable.passed_string.Given as goal

abbrev pub invariant-loop-first : goal.invariant-loop-first
invariant-loop-first l = (s : List ℕ) × (l.text ≡ escape s ++ l.left)

abbrev pub decreases-loop-first : goal.decreases-loop-first
decreases-loop-first l = length l.left
