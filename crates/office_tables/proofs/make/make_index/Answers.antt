use Rattle.office_tables.proofs.Names.{state}
use Rattle.office_tables.proofs.MakingSteps.{indexed_one}
use Rattle.office_tables.proofs.Stepping.{on_ok_with}
use Rattle.office_tables.proofs.make.make_index.Goals as goal

pub returns-clause-made : goal.returns-clause-made
returns-clause-made g c clean inside k index it plain =
    on_ok_with c.execute_one.result _ _ (c.execute_one.ensures.ran clean inside) (λ h. indexed_one (state g.S.Store c.args.tx.now.conn.now) (state g.S.Store c.execute_one.new.tx.conn.now) c.args.sql.now k index h.0 it plain h.1)
