use Rattle.office_changes.proofs.Names.{◌≡◌, take, map, IsTrue, state, HasCleanDisk, Survives, FormerNotice, RunAll, notice_put, Puts}
use Rattle.office_base.specs.declared.puts.Put.TheVariants as puts
use Rattle.office_changes.proofs.migrate.put_notices.Given as goal

abbrev pub invariant-notices : goal.invariant-notices
invariant-notices g l =
    let old = state g.S.Store l.fn.tx.conn.now in
    let now = state g.S.Store l.tx.conn.now in
    (l.tx.conn.ghost_name ≡ l.fn.tx.conn.ghost_name) × Survives old now (λ _. ⊥)
    × (HasCleanDisk now → IsTrue old.in_transaction → Puts old now (map (λ (r : FormerNotice). puts.Notice r.row) (take l.notice-index l.notices)))
    × (HasCleanDisk now → IsTrue old.in_transaction → RunAll g.S.Store (map notice_put (map (λ (r : FormerNotice). r.row) (take l.notice-index l.notices))) l.fn.tx.conn.now l.tx.conn.now)
