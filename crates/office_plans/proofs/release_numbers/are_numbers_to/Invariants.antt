use Rattle.office_plans.proofs.Names.{◌≡◌, ◌+◌, drop}
use Rattle.office_plans.proofs.OneByOne.{are_from}
use Rattle.office_plans.proofs.release_numbers.are_numbers_to.Given as goal

-- the numbers from here on are tested, and those before were right
abbrev pub invariant-loop-number : goal.invariant-loop-number
invariant-loop-number l = (l.next ≡ l.number-index + 1) × (are_from l.next (drop l.number-index l.found) ≡ are_from 1 l.found)
