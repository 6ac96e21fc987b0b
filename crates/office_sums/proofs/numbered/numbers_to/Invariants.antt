use Rattle.office_sums.proofs.Names.{◌≡◌, numbers_to}
use Rattle.office_sums.proofs.numbered.numbers_to.Given as goal

-- the numbers so far
abbrev pub invariant-loop-at : goal.invariant-loop-at
invariant-loop-at l = l.numbers.items ≡ numbers_to l.at
