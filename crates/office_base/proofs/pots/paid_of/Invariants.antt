use Rattle.office_base.proofs.Names.{◌≡◌, ◌+◌, ◌-◌, ◌≤◌, ◌^◌, min, drop, sum_over, paid_in}
use Rattle.office_base.proofs.pots.paid_of.Given as goal

-- the sum so far and the remaining amounts are the whole sum, unless it stopped at 2^128 - 1
abbrev pub invariant-loop-sums : goal.invariant-loop-sums
invariant-loop-sums l =
    (min (l.sum + sum_over paid_in (drop l.sums-index l.contracts)) (2 ^ 128 - 1) ≡ min (sum_over paid_in l.contracts) (2 ^ 128 - 1))
    × (l.sum ≤ 2 ^ 128 - 1)
