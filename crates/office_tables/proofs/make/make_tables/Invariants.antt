use Rattle.office_tables.proofs.Names.{◌≡◌, ◌∷◌, [], List, drop, map, IsTrue, state, HasCleanDisk, Survives, onto, OfficeTable, create_of}
use Rattle.office_tables.proofs.MakingSteps.{MadeOf}
use Rattle.office_tables.proofs.make.make_tables.Given as goal

abbrev pub invariant-texts : goal.invariant-texts
invariant-texts g l =
    let old = state g.S.Store l.fn.tx.conn.now in
    let now = state g.S.Store l.tx.conn.now in
    (l.tx.conn.ghost_name ≡ l.fn.tx.conn.ghost_name) × Survives old now (λ _. ⊥)
    × (HasCleanDisk now → IsTrue old.in_transaction → (ks : List OfficeTable) → map create_of ks ≡ l.fn.first ∷ map (λ text. text.now) l.more → MadeOf old now (onto [] ks) (map (λ text. text.now) (drop l.text-index l.more)))
