use Rattle.office_plans.proofs.Names.{◌≡◌, drop, list_any, Looks, cuts_lost_line}
use Rattle.office_plans.proofs.used.some_cuts_lost_line.Given as goal

abbrev pub invariant-loop-row : goal.invariant-loop-row
invariant-loop-row g l =
    Looks g.H.Lookups.meaning l.fn.shelf l.shelf (λ s. list_any (cuts_lost_line s l.rows) (drop l.row-index l.rows) ≡ list_any (cuts_lost_line s l.rows) l.rows)
    × (g.H.Lookups.meaning.fault_count l.shelf ≡ g.H.Lookups.meaning.fault_count l.fn.shelf)
