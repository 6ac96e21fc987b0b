use Rattle.office_memory.proofs.Names.{subst, List, tables_of, CanUndoAll, Undo}
use Rattle.office_memory.proofs.Undoing.{can_undo-last, taken_back_one}
use Rattle.office_memory.proofs.tables.take_back_all.Goals as goal

pub take_back-requires : goal.take_back-requires
take_back-requires c =
    let family : List Undo → Type 0 = λ us. CanUndoAll us (tables_of c.loop-undo.tables) in
    can_undo-last c.pop.new.self.items c.in-Some.undo (tables_of c.loop-undo.tables) (subst family c.in-Some.ensures.items c.loop-undo.invariant.0)

pub loop-undo-preserved : goal.loop-undo-preserved
loop-undo-preserved c =
    taken_back_one c.loop-undo.undos.items c.pop.new.self.items c.in-Some.undo (tables_of c.loop-undo.tables) (tables_of c.take_back.new.tables) _
    c.in-Some.ensures.items c.take_back.ensures c.loop-undo.invariant
