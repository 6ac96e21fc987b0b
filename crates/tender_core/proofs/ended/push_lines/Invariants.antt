use Rattle.tender_core.proofs.Names.{◌≡◌, ◌++◌, map, filter, drop, is_open_lot, freed_line_put}
use Rattle.tender_core.proofs.ended.push_lines.Given as goal

abbrev pub invariant-loop-row : goal.invariant-loop-row
invariant-loop-row l =
    l.made.items ++ map (freed_line_put l.lines (filter is_open_lot l.lots)) (filter is_open_lot (drop l.row-index l.lots))
    ≡ l.fn.made.items ++ map (freed_line_put l.lines (filter is_open_lot l.lots)) (filter is_open_lot l.lots)
