-- Why a change of an office wasn't made, although its statement was understood.
use Rattle.office_tables.proofs.Names.{◌≡◌, ◌⊎◌, inl, inr, ℕ, List, [], ◌∷◌, None, Some, Ok, Err, Result, true, false, refl, sym, ap, subst, ◌∙◌, length, append-nil, true≢false, IsErrAnd, IfErr, ◌≤◌, leb-true, Row, StoreError, Command, Error, understood, Fails, IsNotRun, IsNoStatement, IsStatement, IsMisplaced, Escapes, EndsScope, ExecutesIn, ExecutesInside, RunsAlone, RunsCommand, HasCause, store_error, IsPlain, command_of, Tables, Put, IsExcused, DiskFails, Declines, StoreFails, Holds, values_of_put, get_version, Office}
use Rattle.sqlite_trees.specs.declared.error.StoreError.TheVariants as stores
use Rattle.sqlite_resolve.specs.declared.compiled.Compiled.{Compiled}
use Rattle.sqlite.specs.Clock.{timed}
use Rattle.sqlite.specs.State.{State}
use Rattle.office_tables.specs.Schema.{statement_of}
use Rattle.office_tables.proofs.Made.{is_change, shows, quiet}
use Rattle.office_tables.proofs.Meanings.{StatementMeans, IsOne, from_text}
use Rattle.office_tables.proofs.ByTable.Office.{get_version_means, get_version_one}
use Rattle.office_tables.proofs.Each.{known}

pub if_err_with : {A E : Type 0} (r : Result A E) (P Q : E → Type 0) → IfErr r P → ((e : E) → P e → Q e) → IfErr r Q
if_err_with (Ok a) P Q h f = tt
if_err_with (Err e) P Q h f = f e h

-- a `?` returns the error of the call
pub same_err : {T E : Type 0} (r : Result T E) (e : E) (P : E → Type 0) → IsErrAnd r (λ y. y ≡ e) → P e → IfErr r P
same_err (Ok a) e P same h = tt
same_err (Err y) e P same h = subst P (sym same) h

-- ---- commands that change rows

other : {k l : Command} → is_change k ≡ true → is_change l ≡ false → k ≡ l → ⊥
other change none same = true≢false (sym change ∙ ap is_change same ∙ none)

never_misplaced : (s : State) (k : Command) (e : Error) → is_change k ≡ true → IsMisplaced s k e → ⊥
never_misplaced s k e change (inl (is, inl begin)) = other change refl begin.0
never_misplaced s k e change (inl (is, inr (inl commit, free))) = other change refl commit
never_misplaced s k e change (inl (is, inr (inr rollback, free))) = other change refl rollback
never_misplaced s k e change (inr (is, name, inl release, unnamed)) = other change refl release
never_misplaced s k e change (inr (is, name, inr back, unnamed)) = other change refl back

never_escapes : (held : ℕ) (s : State) (k : Command) → is_change k ≡ true → Escapes held s k → ⊥
never_escapes held s k change (inl (inl commit)) = other change refl commit
never_escapes held s k change (inl (inr rollback)) = other change refl rollback
never_escapes held s k change (inr (name, inl release, at)) = other change refl release
never_escapes held s k change (inr (name, inr back, at)) = other change refl back

-- ---- one statement

-- why a store failed, if memory was large enough
by_store : (old new : State) (too_big Declined : Type 0) → (too_big → Declined) → (e : Error) → Fails old new too_big e → IsExcused (DiskFails old new ⊎ ((old.is_open ≡ false) ⊎ Declined)) e
by_store old new too_big Declined big e (cause, is, why, back, tells) = by cause is why
  where
    by : (cause : StoreError) → e ≡ store_error cause → HasCause old new too_big cause → IsExcused (DiskFails old new ⊎ ((old.is_open ≡ false) ⊎ Declined)) e
    by stores.OutOfMemory is why = inl is
    by stores.Io is why = inr (inl why)
    by stores.Corrupt is why = inr (inl why)
    by stores.Full is why = inr (inl why)
    by stores.Broken is why = inr (inr (inl why))
    by stores.Unstorable is why = inr (inr (inr (big why)))

module _ (text : List ℕ) (params : Row) (old new : State) (command : Command) (means : StatementMeans old.now.schema text command) (one : IsOne text (length params)) where
  is_statement : (e : Error) → IsNoStatement old text params e → ⊥
  is_statement e (inl unknown) = subst IsPlain unknown.1 means.plain
  is_statement e (inr (c, u, inl many)) = many.0 (subst (λ n. length text ≤ n) (sym (from_text old.now.schema text c means.unlisted u).0) (leb-true _ _ one.whole))
  is_statement e (inr (c, u, inr (inl count))) = count.0 (sym one.given ∙ ap length (sym (from_text old.now.schema text c means.unlisted u).1))
  is_statement e (inr (c, u, inr (inr clock))) = clock.0 (subst IsPlain u means.plain).1

  pub not_run : (Declined : Type 0) (e : Error) → IsNotRun old new text params e → IsExcused (DiskFails old new ⊎ ((old.is_open ≡ false) ⊎ Declined)) e
  unfolding IsNotRun
  not_run Declined e (inl none) = absurd (is_statement e none.0)
  not_run Declined e (inr failed) = by_store old new ⊥ Declined (λ none. absurd none) e failed

  module _ (change : is_change command ≡ true) (silent : shows command ≡ false) where
    abbrev Cause : Type 0
    Cause = DiskFails old new ⊎ ((old.is_open ≡ false) ⊎ Declines old.step_limit old.now text params)

    runs : (c : Compiled) (e : Error) → understood old.now.schema text ≡ Ok c → c.command ≡ command → RunsCommand old new text c params (Err e) → IsExcused Cause e
    runs c e known k (inl (inl misplaced, same)) = absurd (never_misplaced old command e change (subst (λ k. IsMisplaced old k e) k misplaced))
    runs c e known k (inl (inr declined, same)) = inr (inr (inr (c, known, Some e, declined.1)))
    runs c e known k (inr failed) = by_store old new _ _ (λ big. (c, known, None, big)) e failed

    ran : (c : Compiled) (it : IsStatement old text params c) (e : Error) → RunsAlone false old new text c (timed params c.formats it.now) (Err e) → IsExcused Cause e
    ran c it e h =
        let bare : (c.returning ≡ None) × (c.formats ≡ []) = subst IsPlain it.is means.plain in
        let k : c.command ≡ command = sym (ap command_of it.is) ∙ means.is in
        runs c e it.is k (rw (bare.1, append-nil params) at (rw (quiet command silent c k bare.0) at h))

    pub statement_fails : (e : Error) → ExecutesInside 0 text params old new (Err e) → IsExcused Cause e
    unfolding ExecutesIn EndsScope
    statement_fails e (inl (inl none, left)) = not_run _ e none
    statement_fails e (inl (inr h, left)) = ran h.0 h.1 e h.2
    statement_fails e (inr barred) = absurd (never_escapes 0 old command change (subst (Escapes 0 old) (sym (ap command_of barred.0.1.is) ∙ means.is) barred.0.2))

-- ---- one put

excused_with : (P Q : Type 0) (e : Error) → IsExcused P e → (P → Q) → IsExcused Q e
excused_with P Q e (inl memory) f = inl memory
excused_with P Q e (inr cause) f = inr (f cause)

alone : (old new : State) (put : Put) → DiskFails old new ⊎ ((old.is_open ≡ false) ⊎ Declines old.step_limit old.now (statement_of put) (values_of_put put)) → StoreFails old new old.now (put ∷ [])
alone old new put (inl disk) = inl disk
alone old new put (inr (inl shut)) = inr (inl shut)
alone old new put (inr (inr declined)) = inr (inr (record { done = []; put = put; more = []; is = refl; db = old.now; made = refl; holds = λ t held. held; declined = declined }))

pub put_fails : (old new : State) (put : Put) (t : Tables) → Holds old.now t → (e : Error) → ExecutesInside 0 (statement_of put) (values_of_put put) old new (Err e) → IsExcused (StoreFails old new old.now (put ∷ [])) e
put_fails old new put t was e h =
    let it = known old was.places was.tables put in
    excused_with _ _ e (statement_fails (statement_of put) (values_of_put put) old new it.command it.means it.one it.change it.silent e h) (alone old new put)

-- ---- the query for the version

pub begin_fails : (old new : State) (t : Tables) → Holds old.now t → (e : Error) → IsNotRun old new get_version [] e → IsExcused (StoreFails old new old.now []) e
begin_fails old new t was e h = not_run get_version [] old new _ (get_version_means old.now.schema (was.places Office) (was.tables Office)) get_version_one _ e h
