use Rattle.tender_core.proofs.Names.{◌≡◌, ◌++◌, map, take, read_put}
use Rattle.tender_core.proofs.opening.push_tenders.Given as goal

abbrev pub invariant-loop-tender : goal.invariant-loop-tender
invariant-loop-tender l = l.made.items ≡ l.fn.made.items ++ map read_put (take l.tender-index l.tenders)
