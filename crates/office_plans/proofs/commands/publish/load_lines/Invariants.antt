use Rattle.office_plans.proofs.Names.{◌≡◌, map, drop, Looks, line_of_new, with_lines, lines_named}
use Rattle.office_plans.proofs.commands.publish.load_lines.Given as goal

abbrev pub invariant-loop-lot : goal.invariant-loop-lot
invariant-loop-lot g l =
    Looks g.H.Lookups.meaning l.fn.shelf l.shelf (λ s. with_lines s l.lines (map line_of_new (drop l.lot-index l.lots)) ≡ lines_named s (map line_of_new l.lots))
