use Rattle.office_desk.proofs.Names.{◌≡◌, false, drop, list_all, NewLot, Looks, line_at, line_adds_up}
use Rattle.office_desk.proofs.moved_lines.new_lots_add_up.Given as goal

abbrev pub invariant-loop-lot : goal.invariant-loop-lot
invariant-loop-lot g l =
    Looks g.H.Lookups.meaning l.fn.shelf l.shelf (λ s. (g.H.Lookups.meaning.fault_count l.shelf ≡ g.H.Lookups.meaning.fault_count l.fn.shelf)
    × (list_all (λ (row : NewLot). line_adds_up false s (line_at row.line s)) (drop l.lot-index l.lots) ≡ list_all (λ (row : NewLot). line_adds_up false s (line_at row.line s)) l.lots))
