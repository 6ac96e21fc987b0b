use Rattle.ocds_merge.proofs.Names.{take, AllDigits}
use Rattle.ocds_merge.proofs.readable.digit_count.Given as goal

abbrev pub invariant-loop-at : goal.invariant-loop-at
invariant-loop-at l = AllDigits 10 (take l.at l.text)
