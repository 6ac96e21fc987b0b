use Rattle.office_changes.proofs.Names.{◌≡◌, List, ◌++◌, drop, state, HasCleanDisk, Survives, Put, Puts}
use Rattle.office_changes.proofs.apply.put_all.Given as goal

abbrev pub invariant-puts : goal.invariant-puts
invariant-puts g l =
    let old = state g.S.Store l.fn.tx.conn.now in
    let now = state g.S.Store l.tx.conn.now in
    (l.tx.conn.ghost_name ≡ l.fn.tx.conn.ghost_name) × Survives old now (λ _. ⊥)
    × ((done : List Put) × (done ++ drop l.put-index l.more ≡ l.puts) × (HasCleanDisk now → Puts old now done))
