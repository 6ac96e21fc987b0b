use Rattle.office_memory.proofs.Names.{◌≡◌, map, take}
use Rattle.office_memory.proofs.group_index.copies.Given as goal

abbrev pub invariant-loop-row : goal.invariant-loop-row
invariant-loop-row g l = l.copied.items ≡ map (λ row. row.now) (take l.row-index l.rows)
