use Rattle.tender_core.proofs.Names.{◌≡◌, ◌++◌, map, take, reserving_line_put}
use Rattle.tender_core.proofs.publish.push_lines.Given as goal

abbrev pub invariant-loop-lot : goal.invariant-loop-lot
invariant-loop-lot l = l.made.items ≡ l.fn.made.items ++ map (reserving_line_put l.lines l.lots) (take l.lot-index l.lots)
