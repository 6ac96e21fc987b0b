use Rattle.office_memory.proofs.Names.{◌≡◌, vec_len, tables_of, after_undos, CanUndoAll}
use Rattle.office_memory.proofs.tables.take_back_all.Given as goal

abbrev pub invariant-loop-undo : goal.invariant-loop-undo
invariant-loop-undo l = CanUndoAll l.undos.items (tables_of l.tables) × (after_undos l.undos.items (tables_of l.tables) ≡ after_undos l.fn.undos.items (tables_of l.fn.tables))

abbrev pub decreases-loop-undo : goal.decreases-loop-undo
decreases-loop-undo l = vec_len l.undos
