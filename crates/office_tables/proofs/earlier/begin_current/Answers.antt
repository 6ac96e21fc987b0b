use Rattle.office_tables.proofs.Names.{arith, map, state, HasCleanDisk, later_line, later_tables, renewal}
use Rattle.office_tables.specs.Statements.{creates}
use Rattle.office_tables.proofs.EarlierEditions.{begins}
use Rattle.office_tables.proofs.Failing.{if_err_with, same_err}
use Rattle.office_tables.proofs.MakingSteps.{goes_refused}
use Rattle.office_tables.proofs.Statements.{fails_early, fails_later, ran_renewal, run_then}
use Rattle.office_tables.proofs.Stepping.{on_ok_with, on_err_with}
use Rattle.office_tables.proofs.earlier.begin_current.Goals as goal

pub returns-clause-begins : goal.returns-clause-begins
returns-clause-begins g c clean inside =
    let clean_1 : HasCleanDisk (state g.S.Store c.make_later.new.tx.conn.now) = omega (arith, clean, c.renew.ensures.survives.clean) in
    let made = c.in_ok-make_later.ensures.made clean_1 inside in
    on_ok_with c.renew.result _ _ (c.renew.ensures.renewed clean made.2.goes.mode) (λ h. begins g.S.Store c.args.edition c.args.clock.now (state g.S.Store c.args.tx.now.conn.now) c.make_later.new.tx.conn.now c.renew.new.tx.conn.now made h)

pub returns-clause-refused : goal.returns-clause-refused
returns-clause-refused g c clean inside =
    let clean_1 : HasCleanDisk (state g.S.Store c.make_later.new.tx.conn.now) = omega (arith, clean, c.renew.ensures.survives.clean) in
    let made = c.in_ok-make_later.ensures.made clean_1 inside in
    on_err_with c.renew.result _ _ (c.renew.ensures.refused clean made.2.goes.mode) (λ h. goes_refused (state g.S.Store c.args.tx.now.conn.now) (state g.S.Store c.make_later.new.tx.conn.now) (state g.S.Store c.renew.new.tx.conn.now) made.2.goes h)

pub returns-clause-ran : goal.returns-clause-ran
returns-clause-ran g c clean inside =
    let old = c.args.tx.now.conn.now in
    let mid = c.make_later.new.tx.conn.now in
    let new = c.renew.new.tx.conn.now in
    let clean_1 : HasCleanDisk (state g.S.Store mid) = omega (arith, clean, c.renew.ensures.survives.clean) in
    let made = c.in_ok-make_later.ensures.made clean_1 inside in
    on_ok_with c.renew.result _ _ (c.renew.ensures.renewed clean made.2.goes.mode) (λ h.
    run_then g.S.Store (creates c.args.edition (map later_line later_tables)) (renewal c.args.edition c.args.clock.now) old mid new (c.in_ok-make_later.ensures.ran clean_1 inside)
    (ran_renewal g.S.Store c.args.edition c.args.clock.now mid new h))

pub returns-in_err-make_later-clause-fails : goal.returns-in_err-make_later-clause-fails
returns-in_err-make_later-clause-fails g c clean inside =
    same_err c.from_residual.result _ _ c.from_residual.ensures.1
    (fails_early g.S.Store (creates c.args.edition (map later_line later_tables)) (renewal c.args.edition c.args.clock.now) c.args.tx.now.conn.now c.make_later.new.tx.conn.now _
    (c.in_err-make_later.ensures.fails clean inside))

pub returns-clause-fails : goal.returns-clause-fails
returns-clause-fails g c clean inside =
    let old = c.args.tx.now.conn.now in
    let mid = c.make_later.new.tx.conn.now in
    let new = c.renew.new.tx.conn.now in
    let clean_1 : HasCleanDisk (state g.S.Store mid) = omega (arith, clean, c.renew.ensures.survives.clean) in
    let made = c.in_ok-make_later.ensures.made clean_1 inside in
    if_err_with c.renew.result _ _ (c.renew.ensures.fails clean made.2.goes.mode) (λ e h.
    fails_later g.S.Store (creates c.args.edition (map later_line later_tables)) (renewal c.args.edition c.args.clock.now) old mid new e (c.in_ok-make_later.ensures.ran clean_1 inside)
    c.make_later.ensures.survives.counts h)
