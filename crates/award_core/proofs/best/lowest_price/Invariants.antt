use Rattle.std.proofs.Common.{◌≡◌, map, reverse}
use Rattle.award_core.specs.Rules.Award.{lowest_price}
use Rattle.award_core.proofs.best.lowest_price.Given as goal

-- the price found so far is the lowest of the rows so far, which are the last ones of the list
abbrev pub invariant-loop-row : goal.invariant-loop-row
invariant-loop-row l = l.lowest ≡ lowest_price (reverse (map (λ row. row.now) l.yielded))
