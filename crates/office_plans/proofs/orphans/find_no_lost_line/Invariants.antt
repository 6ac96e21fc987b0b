use Rattle.office_plans.proofs.Names.{◌≡◌, drop, list_any, Looks, is_of_lost_line}
use Rattle.office_plans.proofs.orphans.find_no_lost_line.Given as goal

abbrev pub invariant-loop-row : goal.invariant-loop-row
invariant-loop-row g l =
    Looks g.H.Lookups.meaning l.fn.shelf l.shelf (λ s. list_any (is_of_lost_line s l.lines) (drop l.row-index l.rows) ≡ list_any (is_of_lost_line s l.lines) l.rows)
