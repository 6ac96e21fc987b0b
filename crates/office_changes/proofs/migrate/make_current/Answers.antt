use Rattle.office_changes.proofs.Names.{arith, map, state, HasCleanDisk, NoticeRow, beginning, notice_put, FormerNotice, fails_early, fails_later, run_then}
use Rattle.office_changes.proofs.Failing.{if_err_with, same_err}
use Rattle.office_changes.proofs.Migrating.{becomes}
use Rattle.office_changes.proofs.Steps.{goes_refused, on_ok_with, on_err_with}
use Rattle.office_changes.proofs.migrate.make_current.Goals as goal

abbrev row_of : FormerNotice → NoticeRow
row_of r = r.row

pub returns-clause-becomes : goal.returns-clause-becomes
returns-clause-becomes g c clean inside =
    let old = state g.S.Store c.args.tx.now.conn.now in
    let first = state g.S.Store c.begin_current.new.tx.conn.now in
    let mid = state g.S.Store c.put_notices.new.tx.conn.now in
    let early : HasCleanDisk first = omega (arith, clean, c.put_notices.ensures.survives.clean) in
    let begun = c.in_ok-begin_current.ensures.begins early inside in
    on_ok_with c.put_notices.result _ _ (c.put_notices.ensures.puts clean begun.goes.mode) (λ put. becomes c.args.edition c.args.clock.now c.args.notices.now old first mid begun put)

pub returns-clause-refused : goal.returns-clause-refused
returns-clause-refused g c clean inside =
    let old = state g.S.Store c.args.tx.now.conn.now in
    let first = state g.S.Store c.begin_current.new.tx.conn.now in
    let mid = state g.S.Store c.put_notices.new.tx.conn.now in
    let early : HasCleanDisk first = omega (arith, clean, c.put_notices.ensures.survives.clean) in
    let begun = c.in_ok-begin_current.ensures.begins early inside in
    on_err_with c.put_notices.result _ _ (c.put_notices.ensures.refused clean begun.goes.mode) (λ kept. goes_refused old first mid begun.goes kept)

pub returns-clause-ran : goal.returns-clause-ran
returns-clause-ran g c clean inside =
    let old = c.args.tx.now.conn.now in
    let first = c.begin_current.new.tx.conn.now in
    let mid = c.put_notices.new.tx.conn.now in
    let early : HasCleanDisk (state g.S.Store first) = omega (arith, clean, c.put_notices.ensures.survives.clean) in
    let begun = c.in_ok-begin_current.ensures.begins early inside in
    on_ok_with c.put_notices.result _ _ (c.put_notices.ensures.ran clean begun.goes.mode) (λ put.
    run_then g.S.Store (beginning c.args.edition c.args.clock.now) (map notice_put (map row_of c.args.notices.now)) old first mid (c.in_ok-begin_current.ensures.ran early inside) put)

pub returns-in_err-begin_current-clause-fails : goal.returns-in_err-begin_current-clause-fails
returns-in_err-begin_current-clause-fails g c clean inside =
    same_err c.from_residual.result _ _ c.from_residual.ensures.1
    (fails_early g.S.Store (beginning c.args.edition c.args.clock.now) (map notice_put (map row_of c.args.notices.now)) c.args.tx.now.conn.now c.begin_current.new.tx.conn.now _
    (c.in_err-begin_current.ensures.fails clean inside))

pub returns-clause-fails : goal.returns-clause-fails
returns-clause-fails g c clean inside =
    let old = c.args.tx.now.conn.now in
    let first = c.begin_current.new.tx.conn.now in
    let mid = c.put_notices.new.tx.conn.now in
    let early : HasCleanDisk (state g.S.Store first) = omega (arith, clean, c.put_notices.ensures.survives.clean) in
    let begun = c.in_ok-begin_current.ensures.begins early inside in
    if_err_with c.put_notices.result _ _ (c.put_notices.ensures.fails clean begun.goes.mode) (λ e h.
    fails_later g.S.Store (beginning c.args.edition c.args.clock.now) (map notice_put (map row_of c.args.notices.now)) old first mid e (c.in_ok-begin_current.ensures.ran early inside)
    c.begin_current.ensures.survives.counts h)
