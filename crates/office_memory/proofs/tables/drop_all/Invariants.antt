use Rattle.office_memory.proofs.Names.{◌≡◌, without_seals, tables_of}
use Rattle.office_memory.proofs.tables.drop_all.Given as goal

-- the remaining drops lead to the tables after all drops
abbrev pub invariant-loop-receipt : goal.invariant-loop-receipt
invariant-loop-receipt l = without_seals l.receipt-iterator.rest.items (tables_of l.tables) ≡ without_seals l.fn.drops.items (tables_of l.fn.tables)
