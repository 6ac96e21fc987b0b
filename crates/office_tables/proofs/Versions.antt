-- In an office the query for its version is understood, and the version is the answer.
use Rattle.office_tables.proofs.Names.{◌≡◌, ◌⊎◌, inl, inr, ℕ, List, [], Option, Some, None, Ok, Err, Result, true, refl, sym, ap, subst, ◌∙◌, IsTrue, IfOk, IfErr, Row, StoreError, Ghosts, Returning, Command, Program, CompileError, Error, SqlInputError, InvalidQuery, Database, RefusesToRead, Held, state, understood, FailsToQuery, FailsToShow, IsTooLate, IsNotRun, IsNoStatement, store_error, IsPlain, command_of, ClockRow, IsAsked, IsRefusal, get_version, one_version, HasVersion, ShowsVersion}
use Rattle.sqlite_trees.specs.declared.error.StoreError.TheVariants as stores
use Rattle.sqlite_schema.specs.declared.command.Command.TheVariants.{Select}
use Rattle.sqlite_resolve.specs.declared.compiled.Compiled.{Compiled}
use Rattle.sqlite.specs.State.{State}
use Rattle.office_tables.proofs.ByTable.Office.{get_version_means, select_get_version}

store_no_input : (cause : StoreError) (why : CompileError) → store_error cause ≡ SqlInputError why → ⊥
store_no_input stores.OutOfMemory why e = cc
store_no_input stores.Io why e = cc
store_no_input stores.Corrupt why e = cc
store_no_input stores.Full why e = cc
store_no_input stores.Broken why e = cc
store_no_input stores.Unstorable why e = cc

-- a select that is understood doesn't fail as a text
never_read : (limit : Option ℕ) (q : Program) (names : List (List ℕ)) (db : Database) (full : Row) (e : Error) (why : CompileError) → e ≡ SqlInputError why → RefusesToRead limit (Select q names) db full e → ⊥
never_read limit q names db full e why is (inl kind) = let x = sym kind.0 ∙ is in cc
never_read limit q names db full e why is (inr (inl over)) = let x = sym over.0 ∙ is in cc
never_read limit q names db full e why is (inr (inr stopped)) = let x = sym stopped.0 ∙ is in cc

never_asked : (limit : Option ℕ) (k : Command) (q : Program) (names : List (List ℕ)) (db : Database) (full : Row) (e : Error) (why : CompileError) → e ≡ SqlInputError why → k ≡ Select q names → RefusesToRead limit k db full e → ⊥
never_asked limit k q names db full e why is selects refused = never_read limit q names db full e why is (subst (λ c. RefusesToRead limit c db full e) selects refused)

module _ (n : ℕ) (clock : ClockRow) (old new : State) (shows : IsTrue old.is_open → HasVersion n clock old.now) (e : Error) (why : CompileError) (is : e ≡ SqlInputError why) where
  plain : IsTrue old.is_open → IsPlain (understood old.now.schema get_version)
  plain o = let was = shows o in (get_version_means old.now.schema was.place was.table).plain

  shown : (returning : Option Returning) (c : Compiled) (full : Row) → c.returning ≡ returning → understood old.now.schema get_version ≡ Ok c → FailsToShow old new get_version c full e returning → ⊥
  shown None c full none u it =
      let was = shows it.3.0.was_open in
      let means = get_version_means old.now.schema was.place was.table in
      never_asked old.step_limit c.command _ _ it.0 full e why is (ap command_of (sym u) ∙ means.is) it.2
  shown (Some what) c full some u (inl it) =
      let p : IsPlain (Ok c) = subst IsPlain u (plain it.1.0.was_open) in
      let x = sym p.0 ∙ some in
      cc
  shown (Some what) c full some u (inr failed) = store_no_input failed.0 why (sym failed.1 ∙ is)

  never_input : FailsToQuery get_version [] old new e ⊎ IsTooLate get_version [] old new e → ⊥
  unfolding FailsToQuery IsNotRun
  never_input (inl (inl (inl none))) = by none.0
    where
      by : IsNoStatement old get_version [] e → ⊥
      by (inl unknown) = subst IsPlain unknown.1 (plain none.1.0.was_open)
      by (inr (c, u, inl many)) = let x = sym many.1 ∙ is in cc
      by (inr (c, u, inr (inl count))) = let x = sym count.1 ∙ is in cc
      by (inr (c, u, inr (inr clock))) = let x = sym clock.1 ∙ is in cc
  never_input (inl (inl (inr failed))) = store_no_input failed.0 why (sym failed.1 ∙ is)
  never_input (inl (inr h)) = shown h.0.returning h.0 _ refl h.1.is h.2
  never_input (inr late) = let x = sym late.4 ∙ is in cc

pub asked_version : {S A E : Type 0} (n : ℕ) (clock : ClockRow) (g : Ghosts S) (old : Held S) (rows_of : A → List Row) (r : Result A E) → IfOk r (λ a. IsAsked g get_version [] old (rows_of a))
    → ShowsVersion n clock (state g old) → IfOk r (λ a. rows_of a ≡ one_version n)
asked_version n clock g old rows_of (Ok a) h shows =
    select_get_version n clock (state g (record old { in_transaction = true })) (state g h.after) (rows_of a) (subst (HasVersion n clock) (sym h.settled) (shows h.was_open)) h.shown
asked_version n clock g old rows_of (Err e) h shows = tt

pub refused_version : {S A : Type 0} (n : ℕ) (clock : ClockRow) (g : Ghosts S) (old : Held S) (r : Result A Error) → IfErr r (IsRefusal g get_version [] old)
    → (IsTrue (state g old).is_open → (state g old).now ≡ (state g old).committed) → ShowsVersion n clock (state g old) → IfErr r (λ e. (why : CompileError) → e ≡ SqlInputError why → ⊥)
refused_version n clock g old (Ok a) h settled shows = tt
refused_version n clock g old (Err e) (inl h) settled shows = λ why is.
    never_input n clock (state g (record old { in_transaction = true })) (state g h.0) (λ o. subst (HasVersion n clock) (sym (settled o)) (shows o)) e why is h.1
refused_version n clock g old (Err e) (inr h) settled shows = λ why is. let x : InvalidQuery ≡ SqlInputError why = sym h ∙ is in cc
