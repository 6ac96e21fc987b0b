-- The state of a transaction after some statements.
use Rattle.office_tables.proofs.Names.{◌⊎◌, inl, inr, ℕ, Err, Ok, Result, List, OnErr, OnOk, Row, Error, IsUnchanged, IsRolledBack, ExecutesInside, Refused}
use Rattle.sqlite.specs.State.{State}

pub on_err : {A E : Type 0} (r : Result A E) (P : Type 0) → P → OnErr r P
on_err (Ok a) P h = tt
on_err (Err e) P h = h

pub on_ok_with : {A E : Type 0} (r : Result A E) (P Q : Type 0) → OnOk r P → (P → Q) → OnOk r Q
on_ok_with (Ok a) P Q h f = f h
on_ok_with (Err e) P Q h f = tt

pub on_err_with : {A E : Type 0} (r : Result A E) (P Q : Type 0) → OnErr r P → (P → Q) → OnErr r Q
on_err_with (Ok a) P Q h f = tt
on_err_with (Err e) P Q h f = f h

unchanged : (old new : State) → IsUnchanged old new ⊎ IsRolledBack old new → Refused old new
unchanged old new (inl same) = record { was_open = λ _. same.0.was_open; committed = λ _. same.0.committed_is }
unchanged old new (inr back) = record { was_open = back.was_open; committed = λ o. (back.undone o).1 }

pub refuses : (sql : List ℕ) (params : Row) (old new : State) (e : Error) → ExecutesInside 0 sql params old new (Err e) → Refused old new
refuses sql params old new e (inl ran) = unchanged old new ran.1
refuses sql params old new e (inr barred) = unchanged old new (inl barred.2)
