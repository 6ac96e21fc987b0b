use Rattle.office_store.proofs.Names.{◌≡◌, length, mentions, mentions_from}
use Rattle.office_store.proofs.others.mentions.Given as goal

abbrev pub invariant-loop-rest : goal.invariant-loop-rest
invariant-loop-rest l = mentions_from l.within l.word l.rest ≡ mentions l.word l.fn.text

abbrev pub decreases-loop-rest : goal.decreases-loop-rest
decreases-loop-rest l = length l.rest
