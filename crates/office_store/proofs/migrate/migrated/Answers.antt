use Rattle.office_store.proofs.Names.{rules, arith, ◌≡◌, map, IsTrue, false, state, HasCleanDisk, survives_then, FormerNotice, LeavesMigrated, leads_there}
use Rattle.office_store.proofs.Founding.{refused_on}
use Rattle.office_store.proofs.Migrating.{from_told, told_leaves, apart_committed}
use Rattle.office_store.proofs.migrate.migrated.Goals as goal

pub returns-in-Ok-clause-migrated : goal.returns-in-Ok-clause-migrated
returns-in-Ok-clause-migrated g c clean =
    let held = c.args.conn.now in
    let old = state g.S.Store held in
    let mid = state g.S.Store c.former.new.conn in
    let new = state g.S.Store c.migrate.new.conn in
    let early : HasCleanDisk mid = omega (arith, clean, c.migrate.ensures.survives.clean) in
    let settled : IsTrue old.is_open → old.now ≡ old.committed = search rules in
    let free : leads_there c.args.edition held.schema ≡ false = search rules in
    let stood = c.in_ok-stood.stood in
    from_told c.args.edition stood.clock (map (λ (r : FormerNotice). r.row) stood.notices.items) old mid (c.former.ensures.kept early)
    (apart_committed g.S.Store c.args.edition held settled free)
    (λ t shows. (c.in_ok-stood.ensures.got early c.args.edition t shows).0) (λ t shows. (c.in_ok-stood.ensures.got early c.args.edition t shows).1) new (rw c.as_slice.ensures.value at (c.in-Ok.ensures.migrates clean))

pub returns-clause-kept : goal.returns-clause-kept
returns-clause-kept g c clean =
    let mid = state g.S.Store c.former.new.conn in
    let early : HasCleanDisk mid = omega (arith, clean, c.migrate.ensures.survives.clean) in
    refused_on (state g.S.Store c.args.conn.now) mid (state g.S.Store c.migrate.new.conn) (c.former.ensures.kept early) (c.in-Err.ensures.refused clean)

pub returns-clause-survives : goal.returns-clause-survives
returns-clause-survives g c =
    let held = c.args.conn.now in
    let old = state g.S.Store held in
    let mid = state g.S.Store c.former.new.conn in
    let new = state g.S.Store c.migrate.new.conn in
    let settled : IsTrue old.is_open → old.now ≡ old.committed = search rules in
    let free : leads_there c.args.edition held.schema ≡ false = search rules in
    let stood = c.in_ok-stood.stood in
    let stops = rw c.as_slice.ensures.value at c.migrate.ensures.survives in
    survives_then old mid new _ _ (LeavesMigrated c.args.edition old) (λ _ db none. absurd none)
    (λ clean db leaves.
    let early : HasCleanDisk mid = omega (arith, clean, stops.clean) in
    told_leaves c.args.edition stood.clock (map (λ (r : FormerNotice). r.row) stood.notices.items) old mid (c.former.ensures.kept early)
    (apart_committed g.S.Store c.args.edition held settled free)
    (λ t shows. (c.in_ok-stood.ensures.got early c.args.edition t shows).0) (λ t shows. (c.in_ok-stood.ensures.got early c.args.edition t shows).1) db leaves)
    c.former.ensures.survives stops

pub returns-in-Ok-clause-survives : goal.returns-in-Ok-clause-survives
returns-in-Ok-clause-survives g c =
    let held = c.args.conn.now in
    let old = state g.S.Store held in
    let mid = state g.S.Store c.former.new.conn in
    let new = state g.S.Store c.migrate.new.conn in
    let settled : IsTrue old.is_open → old.now ≡ old.committed = search rules in
    let free : leads_there c.args.edition held.schema ≡ false = search rules in
    let stood = c.in_ok-stood.stood in
    let stops = rw c.as_slice.ensures.value at c.migrate.ensures.survives in
    survives_then old mid new _ _ (LeavesMigrated c.args.edition old) (λ _ db none. absurd none)
    (λ clean db leaves.
    let early : HasCleanDisk mid = omega (arith, clean, stops.clean) in
    told_leaves c.args.edition stood.clock (map (λ (r : FormerNotice). r.row) stood.notices.items) old mid (c.former.ensures.kept early)
    (apart_committed g.S.Store c.args.edition held settled free)
    (λ t shows. (c.in_ok-stood.ensures.got early c.args.edition t shows).0) (λ t shows. (c.in_ok-stood.ensures.got early c.args.edition t shows).1) db leaves)
    c.former.ensures.survives stops
