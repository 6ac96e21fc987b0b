use Rattle.office_tables.proofs.Names.{rules, arith, ◌≡◌, IsTrue, subst, IfErr, state, HasCleanDisk, bound, IsRefusedBy}
use Rattle.office_tables.proofs.Asked.{asks, refusals, refused_by}
use Rattle.office_tables.proofs.ask.ask.Goals as goal

pub returns-clause-asked : goal.returns-clause-asked
returns-clause-asked g c clean =
    let old = c.args.conn.now in
    let mid = c.ask_inside-rows.new.tx.conn.now in
    let end = c.rollback.new.self.0 in
    let begun = c.transaction-tx.ensures.begun in
    let late : HasCleanDisk (state g.S.Store end) = search rules in
    let early : HasCleanDisk (state g.S.Store mid) = omega (arith, c.rollback.ensures.survives.clean) in
    let settled : IsTrue (state g.S.Store old).is_open → (state g.S.Store old).now ≡ (state g.S.Store old).committed = search rules in
    asks g.S.Store c.args.sql.now (bound c.args.values.now) old mid (λ rows. rows.items) c.ask_inside-rows.result settled (rw begun at (c.ask_inside-rows.ensures.shown early)) (rw begun at (c.ask_inside-rows.ensures.opened early))

pub returns-clause-refused : goal.returns-clause-refused
returns-clause-refused g c clean =
    let old = c.args.conn.now in
    let mid = c.ask_inside-rows.new.tx.conn.now in
    let end = c.rollback.new.self.0 in
    let begun = c.transaction-tx.ensures.begun in
    let late : HasCleanDisk (state g.S.Store end) = search rules in
    let early : HasCleanDisk (state g.S.Store mid) = omega (arith, c.rollback.ensures.survives.clean) in
    refusals g.S.Store c.args.sql.now (bound c.args.values.now) old mid c.ask_inside-rows.result (rw begun at (c.ask_inside-rows.ensures.failed early))

pub returns-clause-failed : goal.returns-clause-failed
returns-clause-failed g c clean =
    let old = c.args.conn.now in
    let mid = c.ask_inside-rows.new.tx.conn.now in
    let end = c.rollback.new.self.0 in
    let begun = c.transaction-tx.ensures.begun in
    let same : end ≡ c.conn-1.given.0 = search rules in
    let late : HasCleanDisk (state g.S.Store end) = search rules in
    let early : HasCleanDisk (state g.S.Store mid) = omega (arith, c.rollback.ensures.survives.clean) in
    subst (λ h. IfErr c.ask_inside-rows.result (IsRefusedBy g.S.Store c.args.sql.now (bound c.args.values.now) old h)) same
    (refused_by g.S.Store c.args.sql.now (bound c.args.values.now) old mid end c.ask_inside-rows.result c.rollback.ensures.survives.counts (rw begun at (c.ask_inside-rows.ensures.failed early)))
