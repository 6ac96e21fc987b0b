use Rattle.ocds_merge.proofs.Names.{take, AllStandForThemselves}
use Rattle.ocds_merge.proofs.scan.after_plain.Given as goal

abbrev pub invariant-loop-at : goal.invariant-loop-at
invariant-loop-at l = AllStandForThemselves (take l.at l.text)
