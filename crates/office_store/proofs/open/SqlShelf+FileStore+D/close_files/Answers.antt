use Rattle.office_store.proofs.Names.{sym, subst, view, IsFaultOf, ClosingFails, IsHalfClosed}
use Rattle.sqlite_trees.specs.View.{IsClean}
use Rattle.office_store.proofs.Reopening.{closing_cause, half_closed}
use Rattle.office_store.proofs.open.SqlShelf+FileStore+D.close_files.Goals as goal

pub returns-in-Err-clause-stopped : goal.returns-in-Err-clause-stopped
returns-in-Err-clause-stopped g c =
    let store = c.in-Err.store in
    subst (λ h. IsHalfClosed h store) c.into_connection.ensures (half_closed c.into_connection.result store c.in-Err.ensures.err.0)

pub returns-in-Err-clause-cause : goal.returns-in-Err-clause-cause
returns-in-Err-clause-cause g c clean =
    let store = c.in-Err.store in
    let it = closing_cause c.into_connection.result store c.in-Err.error (c.in-Err.ensures.err.1 clean) in
    subst (λ h. IsFaultOf (ClosingFails h store) c.fault.result) c.into_connection.ensures (subst (IsFaultOf (ClosingFails c.into_connection.result store)) (sym c.fault.ensures) it)
