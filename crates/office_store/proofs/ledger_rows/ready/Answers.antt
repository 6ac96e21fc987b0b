use Rattle.office_store.proofs.Names.{[], state}
use Rattle.office_store.proofs.Kept.{unchanged, not_run_kept}
use Rattle.office_store.proofs.ledger_rows.ready.Goals as goal

pub returns-in-Err-clause-kept : goal.returns-in-Err-clause-kept
returns-in-Err-clause-kept g c clean = not_run_kept c.list_joined.result.now [] (state g.S.Store c.args.conn.now) (state g.S.Store c.prepare.new.self) c.in-Err.error (c.in-Err.ensures.err clean [])

pub returns-clause-kept : goal.returns-clause-kept
returns-clause-kept g c clean = unchanged (state g.S.Store c.args.conn.now) (state g.S.Store c.prepare.new.self) (c.in_default.ensures.ok clean).1
