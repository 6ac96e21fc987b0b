use Rattle.office_memory.proofs.Names.{◌≡◌, ◌+◌, ◌≤◌, length, vec_len, vec_capacity, after_puts, without_seals, tables_of, after_undos, CanUndoAll}
use Rattle.office_memory.proofs.tables.apply_all.Given as goal

-- The remaining changes lead to the tables after all changes. Those made can be taken back, and the list of them can take the rest without memory.
abbrev pub invariant-loop-put : goal.invariant-loop-put
invariant-loop-put l =
    (after_puts l.put-iterator.rest.items (without_seals l.drops.items (tables_of l.tables)) ≡ after_puts l.fn.puts.items (tables_of l.fn.tables))
    × CanUndoAll l.undos.items (tables_of l.tables)
    × (after_undos l.undos.items (tables_of l.tables) ≡ tables_of l.fn.tables)
    × (vec_len l.undos + length l.put-iterator.rest.items ≤ vec_capacity l.undos)
