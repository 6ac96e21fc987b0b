use Rattle.keyed_table.proofs.Names.{◌≡◌, map}
use Rattle.keyed_table.proofs.table.Table.copy_all.Given as goal

abbrev pub invariant-loop-row : goal.invariant-loop-row
invariant-loop-row g l = l.rows.items ≡ map (λ r. r.now) l.yielded
