use Rattle.office_tables.proofs.Names.{state}
use Rattle.office_tables.proofs.Reading.{shown_kept, result_kept, if_ok_on}
use Rattle.office_tables.proofs.ask.ask_inside.Goals as goal

pub returns-clause-opened : goal.returns-clause-opened
returns-clause-opened g c clean =
    let old = state g.S.Store c.args.tx.now.conn.now in
    let new = state g.S.Store c.query_all.new.self.conn.now in
    if_ok_on c.query_all.result _ _ (c.query_all.ensures.ok clean) (λ rows h. (shown_kept c.args.sql.now _ old new c.requires.inside rows.items h).0)

pub returns-clause-kept : goal.returns-clause-kept
returns-clause-kept g c clean =
    let old = state g.S.Store c.args.tx.now.conn.now in
    let new = state g.S.Store c.query_all.new.self.conn.now in
    result_kept c.args.sql.now _ old new c.requires.inside (λ rows. rows.items) c.query_all.result (c.query_all.ensures.ok clean) (c.query_all.ensures.err clean)
