use Rattle.office_tables.proofs.Names.{◌≡◌, ◌∷◌, drop, map, IsTrue, state, HasCleanDisk, Survives, AreIndexings, Indexes}
use Rattle.office_tables.proofs.make.make_indexes.Given as goal

abbrev pub invariant-texts : goal.invariant-texts
invariant-texts g l =
    let old = state g.S.Store l.fn.tx.conn.now in
    let now = state g.S.Store l.tx.conn.now in
    (l.tx.conn.ghost_name ≡ l.fn.tx.conn.ghost_name) × Survives old now (λ _. ⊥)
    × (HasCleanDisk now → IsTrue old.in_transaction → AreIndexings (l.fn.first ∷ map (λ text. text.now) l.more) → Indexes old now × AreIndexings (map (λ text. text.now) (drop l.text-index l.more)))
