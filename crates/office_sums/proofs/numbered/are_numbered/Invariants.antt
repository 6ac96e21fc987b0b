use Rattle.office_sums.proofs.Names.{◌≡◌, take, numbers_to}
use Rattle.office_sums.proofs.numbered.are_numbered.Given as goal

-- the numbers that were passed are those from 1 on
abbrev pub invariant-loop-at : goal.invariant-loop-at
invariant-loop-at l = take l.at l.numbers ≡ numbers_to l.at
