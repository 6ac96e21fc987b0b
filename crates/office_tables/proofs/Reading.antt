-- The state of a connection after a select, and the values of its rows.
use Rattle.office_tables.proofs.Names.{OnOk, IfOk, IfErr, ◌⊎◌, inl, inr, ℕ, List, Option, Some, None, Ok, Err, Result, IsTrue, ◌∙◌, Row, Error, IsUnchanged, IsRolledBack, IsNotRun, IsTooLate, FailsToQuery, FailsToShow, ShowsRows, Returning, Refused}
use Rattle.sqlite_resolve.specs.declared.compiled.Compiled.{Compiled}
use Rattle.sqlite.specs.State.{State, Shown}

pub unchanged : (old new : State) → IsUnchanged old new → Refused old new
unchanged old new same = record { was_open = λ _. same.0.was_open; committed = λ _. same.0.committed_is }

back : (old new : State) → IsRolledBack old new → Refused old new
back old new b = record { was_open = b.was_open; committed = λ o. (b.undone o).1 }

-- a query inside a transaction commits nothing, whatever its text
module _ (sql : List ℕ) (params : Row) (old new : State) (inside : IsTrue old.in_transaction) where
  written : (rows : List Row) (returning : Option Returning) (c : Compiled) (full : Row) → ShowsRows old new sql c full rows returning → IsTrue old.is_open × Refused old new
  written rows None c full it = (it.3.0.was_open, unchanged old new it.3)
  written rows (Some what) c full it =
      let w = it.1 in
      (w.shown.was_open, record { was_open = λ _. w.shown.was_open; committed = λ _. w.shown.committed_is ∙ rw inside })

  pub shown_kept : (rows : List Row) → Shown sql params old new rows → IsTrue old.is_open × Refused old new
  unfolding Shown
  shown_kept rows h = written rows h.0.returning h.0 _ h.2

  refused_row : (e : Error) (returning : Option Returning) (c : Compiled) (full : Row) → FailsToShow old new sql c full e returning → Refused old new
  refused_row e None c full it = unchanged old new it.3
  refused_row e (Some what) c full (inl it) = unchanged old new it.1
  refused_row e (Some what) c full (inr it) = back old new it.3

  pub query_kept : (e : Error) → FailsToQuery sql params old new e ⊎ IsTooLate sql params old new e → Refused old new
  unfolding FailsToQuery IsNotRun
  query_kept e (inl (inl (inl none))) = unchanged old new none.1
  query_kept e (inl (inl (inr failed))) = back old new failed.3
  query_kept e (inl (inr h)) = refused_row e h.0.returning h.0 _ h.2
  query_kept e (inr late) = unchanged old new late.5

  pub result_kept : {X : Type 0} (rows_of : X → List Row) (r : Result X Error) → IfOk r (λ x. Shown sql params old new (rows_of x)) → IfErr r (λ e. FailsToQuery sql params old new e ⊎ IsTooLate sql params old new e) → Refused old new
  result_kept rows_of (Ok x) ok err = (shown_kept (rows_of x) ok).1
  result_kept rows_of (Err e) ok err = query_kept e err

pub if_ok_on : {A E : Type 0} (r : Result A E) (P : A → Type 0) (Q : Type 0) → IfOk r P → ((a : A) → P a → Q) → OnOk r Q
if_ok_on (Ok a) P Q h f = f a h
if_ok_on (Err e) P Q h f = tt

pub not_run_kept : (sql : List ℕ) (params : Row) (old new : State) (e : Error) → IsNotRun old new sql params e → Refused old new
unfolding IsNotRun
not_run_kept sql params old new e (inl none) = unchanged old new none.1
not_run_kept sql params old new e (inr failed) = back old new failed.3
