use Rattle.ocds_merge.proofs.Names.{List, ℕ, length, Members, StandAt, Searched}
use Rattle.ocds_merge.proofs.list_text.member_value.Given as goal

abbrev pub invariant-loop-member : goal.invariant-loop-member
invariant-loop-member l = (ts : Members) (rest : List ℕ) → StandAt l.text ts rest → Searched l.name ts rest l.left

abbrev pub decreases-loop-member : goal.decreases-loop-member
decreases-loop-member l = length l.left
