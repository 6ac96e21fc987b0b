-- The result of preparing a statement shows whether the store was shut.
use Rattle.office_store.proofs.Names.{◌≡◌, inl, inr, ℕ, List, Bool, true, false, not, Ok, refl, sym, ap, subst, ◌∙◌, IsTrue, Row, StoreError, OutOfMemory, Io, Corrupt, Full, Broken, Unstorable, State, IsUnchanged, IsNoStatement, IsNotRun, IsRolledBack, store_error, IsTold, told_by}
use Rattle.sqlite.specs.declared.error.Error.{Error}
use Rattle.sqlite.specs.State.{HasCause}

pub told_open : (old new : State) → IsUnchanged old new → IsTold old new (Ok false)
told_open old new same = (ap not (sym same.0.was_open), same.0.is_open ∙ sym same.0.was_open, tt)

-- an open store rejects a text that is no statement
no_statement : (old new : State) (sql : List ℕ) (params : Row) (e : Error) → IsUnchanged old new → IsNoStatement old sql params e → IsTold old new (told_by e)
no_statement old new sql params e same (inl it) = subst (λ x. IsTold old new (told_by x)) (sym it.2) (told_open old new same)
no_statement old new sql params e same (inr (c, is, inl it)) = subst (λ x. IsTold old new (told_by x)) (sym it.1) (told_open old new same)
no_statement old new sql params e same (inr (c, is, inr (inl it))) = subst (λ x. IsTold old new (told_by x)) (sym it.1) (told_open old new same)
no_statement old new sql params e same (inr (c, is, inr (inr it))) = subst (λ x. IsTold old new (told_by x)) (sym it.1) (told_open old new same)

-- a store that was shut stays shut
shut_after : (before after : Bool) → (IsTrue after → IsTrue before) → before ≡ false → after ≡ before
shut_after before false back shut = sym shut
shut_after before true back shut = absurd (let up : before ≡ true = back refl in cc)

-- a store that fails says why
by_cause : (old new : State) (cause : StoreError) → HasCause old new ⊥ cause → IsRolledBack old new → IsTold old new (told_by (store_error cause))
by_cause old new OutOfMemory why back = (tt, tt, inl refl)
by_cause old new Io why back = (tt, tt, inr why)
by_cause old new Corrupt why back = (tt, tt, inr why)
by_cause old new Full why back = (tt, tt, inr why)
by_cause old new Broken why back = (ap not (sym why), shut_after old.is_open new.is_open back.was_open why, tt)
by_cause old new Unstorable why back = absurd why

pub told_refusal : (sql : List ℕ) (params : Row) (old new : State) (e : Error) → IsNotRun old new sql params e → IsTold old new (told_by e)
unfolding IsNotRun
told_refusal sql params old new e (inl none) = no_statement old new sql params e none.1 none.0
told_refusal sql params old new e (inr failed) = subst (λ x. IsTold old new (told_by x)) (sym failed.1) (by_cause old new failed.0 failed.2 failed.3)
