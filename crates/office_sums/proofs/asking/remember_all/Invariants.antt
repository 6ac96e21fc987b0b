use Rattle.office_sums.proofs.Names.{drop, Tables, AreBalances, Remembers}
use Rattle.office_sums.proofs.asking.remember_all.Given as goal

-- the rest of the rows have the sums of their lines, and the sums that are remembered so far agree
abbrev pub invariant-loop-row : goal.invariant-loop-row
invariant-loop-row l = (t : Tables) → AreBalances l.rows t → AreBalances (drop l.row-index l.rows) t × Remembers l.known t
