use Rattle.office_store.proofs.Names.{[], sym, subst, state, get_version, IsTold}
use Rattle.office_store.proofs.Kept.{unchanged, not_run_kept}
use Rattle.office_store.proofs.Shutting.{told_open, told_refusal}
use Rattle.office_store.proofs.shut.ask.Goals as goal

pub returns-in-Err-clause-told : goal.returns-in-Err-clause-told
returns-in-Err-clause-told g c clean =
    let old = state g.S.Store c.args.conn.now in
    let new = state g.S.Store c.prepare.new.self in
    subst (λ r. IsTold old new r) (sym c.tell.ensures) (told_refusal get_version [] old new c.in-Err.error (c.in-Err.ensures.err clean []))

pub returns-in-Err-clause-kept : goal.returns-in-Err-clause-kept
returns-in-Err-clause-kept g c clean = not_run_kept get_version [] (state g.S.Store c.args.conn.now) (state g.S.Store c.prepare.new.self) c.in-Err.error (c.in-Err.ensures.err clean [])

pub returns-clause-told : goal.returns-clause-told
returns-clause-told g c clean = told_open (state g.S.Store c.args.conn.now) (state g.S.Store c.prepare.new.self) (c.in_default.ensures.ok clean).1

pub returns-clause-kept : goal.returns-clause-kept
returns-clause-kept g c clean = unchanged (state g.S.Store c.args.conn.now) (state g.S.Store c.prepare.new.self) (c.in_default.ensures.ok clean).1
