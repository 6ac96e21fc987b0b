use Rattle.office_sums.proofs.Names.{take, Tables, CountsOn}
use Rattle.office_sums.proofs.numbered.RememberedCounts.follow.Given as goal

-- the numbers are right after the changes that were passed
abbrev pub invariant-loop-put : goal.invariant-loop-put
invariant-loop-put l = (t : Tables) → CountsOn l.fn.self l.self (take l.put-index l.puts) t
