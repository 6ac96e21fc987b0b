use Rattle.office_plans.proofs.Names.{◌≡◌, ◌<◌, ℕ, get_or, map, drop, IsSome, total_limit, BudgetRow, Looks, find_standing, AreAtMost, line_of_row, with_standings, standings_named}
use Rattle.office_plans.proofs.standings.load_standings.Given as goal

abbrev pub invariant-loop-row : goal.invariant-loop-row
invariant-loop-row g l =
    Looks g.H.Lookups.meaning l.fn.shelf l.shelf (λ s. with_standings s l.lines (map line_of_row (drop l.row-index l.rows)) ≡ standings_named s (map line_of_row l.rows))
    × ((k : ℕ) (d : BudgetRow) → k < l.row-index → IsSome (find_standing l.lines (get_or l.rows k d).line))
    × AreAtMost total_limit l.lines
