use Rattle.office_memory.proofs.Names.{◌≡◌, ◌+◌, List, [], ◌∷◌, ◌++◌, length, ap, sym, ◌∙◌, subst, arith, after_puts, without_seals, tables_of, after_undos, CanUndoAll, Undo}
use Rattle.office_memory.proofs.Undoing.{made_one}
use Rattle.office_memory.proofs.tables.apply_all.Goals as goal

pub loop-put-preserved : goal.loop-put-preserved
loop-put-preserved c =
    let rest = c.next.new.self.rest.items in
    let taken = c.in-Some.ensures.steps.0 in
    let pushed : c.push.new.self.items ≡ c.loop-put.undos.items ++ c.in-Ok.undo ∷ [] = grind (arith, c.push.ensures.items, c.unwrap.ensures) in
    let made : CanUndoAll (c.loop-put.undos.items ++ c.in-Ok.undo ∷ []) (tables_of c.put_one.new.tables) × (after_undos (c.loop-put.undos.items ++ c.in-Ok.undo ∷ []) (tables_of c.put_one.new.tables) ≡ tables_of c.args.tables.now) =
    made_one c.loop-put.undos.items c.in-Ok.undo (tables_of c.loop-put.tables) (tables_of c.put_one.new.tables) (tables_of c.args.tables.now)
    c.in-Ok.ensures.back c.in-Ok.ensures.can (c.loop-put.invariant.1, c.loop-put.invariant.2) in
    let one_less : length c.loop-put.put-iterator.rest.items ≡ length rest + 1 = omega (arith, ap length taken) in (
      ap (after_puts rest) c.in-Ok.ensures.after ∙ sym (ap (λ ps. after_puts ps (without_seals c.loop-put.drops.items (tables_of c.loop-put.tables))) taken) ∙ c.loop-put.invariant.0,
      subst (λ (us : List Undo). CanUndoAll us (tables_of c.put_one.new.tables)) (sym pushed) made.0,
      ap (λ us. after_undos us (tables_of c.put_one.new.tables)) pushed ∙ made.1,
      grind (arith, c.push.ensures.len, c.push.ensures.capacity, c.unwrap.ensures, c.loop-put.invariant.3, one_less),
    )
