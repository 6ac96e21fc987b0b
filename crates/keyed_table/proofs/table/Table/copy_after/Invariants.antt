use Rattle.keyed_table.proofs.Names.{◌≡◌, ◌++◌, ◌≤◌, length, values_of, rows_after}
use Rattle.keyed_table.proofs.table.Table.copy_after.Given as goal

-- the copied rows and the remaining rows of the range are the rows after the key
abbrev pub invariant-loop-row : goal.invariant-loop-row
invariant-loop-row g l =
    (l.copied.items ++ values_of l.row-iterator ≡ rows_after g.R.Key.Ord.cmp g.R.Row.key_of l.fn.key l.self) × (length l.copied.items ≤ l.most)
