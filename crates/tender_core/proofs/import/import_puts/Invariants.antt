use Rattle.tender_core.proofs.Names.{◌≡◌, take, map, imported_line_put}
use Rattle.tender_core.proofs.import.import_puts.Given as goal

abbrev pub invariant-loop-row : goal.invariant-loop-row
invariant-loop-row l = l.made.items ≡ map (imported_line_put l.after) (take l.row-index l.rows)
