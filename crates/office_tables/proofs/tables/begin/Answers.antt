use Rattle.office_tables.proofs.Names.{[], state}
use Rattle.office_tables.proofs.Failing.{same_err, begin_fails}
use Rattle.office_tables.proofs.Reading.{not_run_kept}
use Rattle.office_tables.proofs.Stepping.{on_err}
use Rattle.office_tables.proofs.tables.begin.Goals as goal

pub returns-in_err-_ready-clause-refused : goal.returns-in_err-_ready-clause-refused
returns-in_err-_ready-clause-refused g c clean =
    on_err _ _ (not_run_kept _ [] (state g.S.Store c.args.tx.now.conn.now) (state g.S.Store c.prepare.new.self.conn.now) _ (c.in_err-_ready.ensures.err clean []))

pub returns-in_err-_ready-clause-failed : goal.returns-in_err-_ready-clause-failed
returns-in_err-_ready-clause-failed g c clean inside t was =
    same_err c.from_residual.result _ _ c.from_residual.ensures.1
    (begin_fails (state g.S.Store c.args.tx.now.conn.now) (state g.S.Store c.prepare.new.self.conn.now) t was _ (c.in_err-_ready.ensures.err clean []))

pub returns-in_err-_ready-clause-unready : goal.returns-in_err-_ready-clause-unready
returns-in_err-_ready-clause-unready g c clean = same_err c.from_residual.result _ _ c.from_residual.ensures.1 (c.in_err-_ready.ensures.err clean [])
