use Rattle.office_store.proofs.Readying.{begun_keeps, begun_takes}
use Rattle.office_store.proofs.ledger_rows.LedgerRows.begin.Goals as goal

pub returns-in-Ok-clause-begun : goal.returns-in-Ok-clause-begun
returns-in-Ok-clause-begun g c =
    begun_takes g.S.Store c.args.conn.now c.ready.new.conn c.in-Ok.rows.conn.now c.join_is_plain.ensures c.join_is_no_write.ensures c.stored_rows_show.ensures c.in_ok-ready.ensures.unchanged c.in_ok-ready.ensures.settled c.in_ok-ready.ensures.survives
    (rw c.list_joined.ensures at c.in-Ok.ensures.survives) (rw c.list_joined.ensures at c.in-Ok.ensures.begun)

pub returns-in-Ok-clause-kept : goal.returns-in-Ok-clause-kept
returns-in-Ok-clause-kept g c =
    begun_keeps g.S.Store c.args.conn.now c.ready.new.conn c.in-Ok.rows.conn.now c.join_is_plain.ensures c.join_is_no_write.ensures c.stored_rows_show.ensures c.in_ok-ready.ensures.unchanged c.in_ok-ready.ensures.settled c.in_ok-ready.ensures.survives
    (rw c.list_joined.ensures at c.in-Ok.ensures.survives) (rw c.list_joined.ensures at c.in-Ok.ensures.begun)
