use Rattle.office_plans.proofs.Names.{◌≡◌, drop, list_any, Looks, is_on_no_line}
use Rattle.office_plans.proofs.used.some_on_no_line.Given as goal

abbrev pub invariant-loop-lot : goal.invariant-loop-lot
invariant-loop-lot g l =
    Looks g.H.Lookups.meaning l.fn.shelf l.shelf (λ s. list_any (is_on_no_line s.lines) (drop l.lot-index l.lots) ≡ list_any (is_on_no_line s.lines) l.lots)
    × (g.H.Lookups.meaning.fault_count l.shelf ≡ g.H.Lookups.meaning.fault_count l.fn.shelf)
