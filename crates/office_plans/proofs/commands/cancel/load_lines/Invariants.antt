use Rattle.office_plans.proofs.Names.{◌≡◌, map, filter, drop, Looks, is_open_lot, with_lines, lines_named}
use Rattle.office_plans.specs.Named.{line_of_lot}
use Rattle.office_plans.proofs.commands.cancel.load_lines.Given as goal

abbrev pub invariant-loop-lot : goal.invariant-loop-lot
invariant-loop-lot g l =
    Looks g.H.Lookups.meaning l.fn.shelf l.shelf
    (λ s. with_lines s l.lines (map line_of_lot (filter is_open_lot (drop l.lot-index l.lots))) ≡ lines_named s (map line_of_lot (filter is_open_lot l.lots)))
