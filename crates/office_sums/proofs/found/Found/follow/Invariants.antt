use Rattle.office_sums.proofs.Names.{take, Tables, after_puts, KnowsRows}
use Rattle.office_sums.proofs.found.Found.follow.Given as goal

-- the answers are right after the changes that were passed
abbrev pub invariant-loop-put : goal.invariant-loop-put
invariant-loop-put l = (t : Tables) → KnowsRows l.fn.self t → KnowsRows l.self (after_puts (take l.put-index l.puts) t)
