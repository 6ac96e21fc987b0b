use Rattle.office_tables.proofs.Names.{Ok, Err, sym, subst₂, state, ExecutesInside}
use Rattle.office_tables.proofs.Each.{puts_of}
use Rattle.office_tables.proofs.Failing.{if_err_with, put_fails}
use Rattle.office_tables.proofs.Stepping.{on_ok_with}
use Rattle.office_tables.proofs.statement.put_row.Goals as goal

pub returns-clause-puts : goal.returns-clause-puts
returns-clause-puts g c clean inside put is =
    let old = state g.S.Store c.args.tx.now.conn.now in
    let new = state g.S.Store c.execute_one.new.tx.conn.now in
    on_ok_with c.execute_one.result _ _ (c.execute_one.ensures.ran clean inside)
    (λ h. puts_of put is.back old new h.0 (subst₂ (λ sql params. ExecutesInside 0 sql params old new (Ok h.0)) (sym is.text) (sym is.values) h.1))

pub returns-clause-failed : goal.returns-clause-failed
returns-clause-failed g c put is clean inside t was =
    let old = state g.S.Store c.args.tx.now.conn.now in
    let new = state g.S.Store c.execute_one.new.tx.conn.now in
    if_err_with c.execute_one.result _ _ (c.execute_one.ensures.failed clean inside)
    (λ e h. put_fails old new put t was e (subst₂ (λ sql params. ExecutesInside 0 sql params old new (Err e)) (sym is.text) (sym is.values) h))
