use Rattle.std.proofs.Common.{◌≡◌, option_map, map, reverse}
use Rattle.award_core.specs.Rules.Award.{best_with}
use Rattle.award_core.proofs.best.best_with.Given as goal

-- the tender found so far is the best of the rows so far, which are the last ones of the list
abbrev pub invariant-loop-row : goal.invariant-loop-row
invariant-loop-row l = option_map (λ row. row.now) l.held ≡ best_with l.weight l.lowest (reverse (map (λ row. row.now) l.yielded))
