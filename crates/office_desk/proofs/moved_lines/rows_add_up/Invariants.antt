use Rattle.office_desk.proofs.Names.{◌≡◌, true, drop, list_all, BudgetRow, Looks, line_at, line_adds_up}
use Rattle.office_desk.proofs.moved_lines.rows_add_up.Given as goal

abbrev pub invariant-loop-row : goal.invariant-loop-row
invariant-loop-row g l =
    Looks g.H.Lookups.meaning l.fn.shelf l.shelf (λ s. (g.H.Lookups.meaning.fault_count l.shelf ≡ g.H.Lookups.meaning.fault_count l.fn.shelf)
    × (list_all (λ (row : BudgetRow). line_adds_up true s (line_at row.line s)) (drop l.row-index l.rows) ≡ list_all (λ (row : BudgetRow). line_adds_up true s (line_at row.line s)) l.rows))
