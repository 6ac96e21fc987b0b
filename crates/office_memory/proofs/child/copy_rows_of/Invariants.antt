use Rattle.office_memory.proofs.Names.{◌≡◌, ◌++◌, filter, values_of}
use Rattle.office_memory.proofs.child.copy_rows_of.Given as goal

-- the copied rows and the remaining rows of the range are the rows of the parent
abbrev pub invariant-loop-row : goal.invariant-loop-row
invariant-loop-row g l = l.copied.items ++ values_of l.row-iterator ≡ filter (g.R.Child.is_of l.parent) l.table
