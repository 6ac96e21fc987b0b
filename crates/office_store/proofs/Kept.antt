-- Statements that commit nothing.
use Rattle.office_store.proofs.Names.{inl, inr, ℕ, List, Row, State, IsUnchanged, IsRolledBack, IsNotRun, Refused}
use Rattle.sqlite.specs.declared.error.Error.{Error}

pub unchanged : (old new : State) → IsUnchanged old new → Refused old new
unchanged old new same = record { was_open = λ _. same.0.was_open; committed = λ _. same.0.committed_is }

undone : (old new : State) → IsRolledBack old new → Refused old new
undone old new back = record { was_open = back.was_open; committed = λ o. (back.undone o).1 }

pub not_run_kept : (sql : List ℕ) (params : Row) (old new : State) (e : Error) → IsNotRun old new sql params e → Refused old new
unfolding IsNotRun
not_run_kept sql params old new e (inl none) = unchanged old new none.1
not_run_kept sql params old new e (inr failed) = undone old new failed.3
