use Rattle.ocds_merge.proofs.Names.{List, ℕ, length, Data, Members, MembersRead, StandAt, AllAbove}
use Rattle.ocds_merge.specs.Inside.Splice.{Passed}
use Rattle.ocds_merge.proofs.object_text.copy_below.Given as goal

abbrev pub invariant-loop-member : goal.invariant-loop-member
invariant-loop-member l = record {
  reads : MembersRead l.from.text.now l.from.later l.from.last.now l.left.text.now l.left.later l.left.last.now l.depth;
  copies : (d : Data) (ms ts : Members) (rest : List ℕ) → StandAt l.from.text.now ts rest → AllAbove l.name ms
      → Passed l.name d ms ts rest l.fn.out.items l.fn.later l.left.text.now l.out.items l.later;
}

abbrev pub decreases-loop-member : goal.decreases-loop-member
decreases-loop-member l = length l.left.text.now
