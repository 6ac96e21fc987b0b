use Rattle.office_tables.proofs.Names.{[], Ok, Err, refl, sym, subst, Row, state, ExecutesInside, notice_put}
use Rattle.office_base.specs.declared.puts.Put.TheVariants as put
use Rattle.office_tables.proofs.Failing.{if_err_with}
use Rattle.office_tables.proofs.Statements.{fails_one, run_one}
use Rattle.office_tables.proofs.Stepping.{on_ok_with}
use Rattle.office_tables.proofs.tables.notices.put_notice.Goals as goal

pub returns-clause-puts : goal.returns-clause-puts
returns-clause-puts g c clean inside = c.put_row.ensures.puts clean inside (put.Notice c.args.row.now) (record { text = refl; values = sym c.notice_values.ensures.row; back = tt })

pub returns-clause-failed : goal.returns-clause-failed
returns-clause-failed g c = c.put_row.ensures.failed (put.Notice c.args.row.now) (record { text = refl; values = sym c.notice_values.ensures.row; back = tt })

pub returns-clause-ran : goal.returns-clause-ran
returns-clause-ran g c clean inside =
    let old = c.args.tx.now.conn.now in
    let new = c.put_row.new.tx.conn.now in
    let s = notice_put c.args.row.now in
    on_ok_with c.put_row.result _ _ (c.put_row.ensures.ran clean inside)
    (λ h. run_one g.S.Store s old new h.0 (subst (λ (v : Row). ExecutesInside 0 s.text v (state g.S.Store old) (state g.S.Store new) (Ok h.0)) c.notice_values.ensures.row h.1))

pub returns-clause-fails : goal.returns-clause-fails
returns-clause-fails g c clean inside =
    let old = c.args.tx.now.conn.now in
    let new = c.put_row.new.tx.conn.now in
    let s = notice_put c.args.row.now in
    if_err_with c.put_row.result _ _ (c.put_row.ensures.fails clean inside)
    (λ e h. fails_one g.S.Store s [] old new e (subst (λ (v : Row). ExecutesInside 0 s.text v (state g.S.Store old) (state g.S.Store new) (Err e)) c.notice_values.ensures.row h))
