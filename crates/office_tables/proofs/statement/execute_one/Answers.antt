use Rattle.office_tables.proofs.Names.{state}
use Rattle.office_tables.proofs.Stepping.{refuses, on_err}
use Rattle.office_tables.proofs.statement.execute_one.Goals as goal

pub returns-in_err-execute-clause-refused : goal.returns-in_err-execute-clause-refused
returns-in_err-execute-clause-refused g c clean inside =
    on_err _ _ (refuses _ _ (state g.S.Store c.args.tx.now.conn.now) (state g.S.Store c.execute.new.self.conn.now) c.in_err-execute.field-0.0
    (c.in_err-execute.ensures.runs clean inside))
