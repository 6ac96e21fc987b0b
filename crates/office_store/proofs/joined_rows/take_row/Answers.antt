use Rattle.office_store.proofs.Names.{sym, subst, Advances}
use Rattle.office_store.proofs.Taking.{takes, all_taken}
use Rattle.office_store.proofs.joined_rows.take_row.Goals as goal

pub returns-in-Ok-clause-rows : goal.returns-in-Ok-clause-rows
returns-in-Ok-clause-rows g c clean t taken was =
    takes g.S.Store c.joined_rows_come_back.ensures c.args.rows.now.conn.now c.advance.new.self.conn.now t taken was c.join_is_begun.ensures c.in-Some.row.now c.in-Ok.joined
    (c.in_default.ensures.same clean) (subst (Advances g.S.Store c.args.rows.now.conn.now c.advance.new.self.conn.now) (sym c.in-Some.ensures) (c.in_default.ensures.ok clean)) c.in-Ok.ensures.read

pub returns-in-None-clause-rows : goal.returns-in-None-clause-rows
returns-in-None-clause-rows g c clean t taken was =
    all_taken g.S.Store c.joined_rows_come_back.ensures c.args.rows.now.conn.now c.advance.new.self.conn.now t taken was c.join_is_shown.ensures
    (subst (Advances g.S.Store c.args.rows.now.conn.now c.advance.new.self.conn.now) (sym c.in-None.ensures) (c.in_default.ensures.ok clean))
