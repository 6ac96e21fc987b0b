-- The results of look-ups, the work of a transaction so far, and the store after a change of the office.
use Rattle.std.specs.Prelude.{◌≡◌, ◌⊎◌, ◌≤◌, true, false, IsTrue, ℕ, Option, Result, Ok, IfOk, List, [], ◌∷◌}
use Rattle.sqlite_value.specs.Order.{Row}
use Rattle.sqlite_schema.specs.declared.schema.Keys.TheVariants.{Enforced}
use Rattle.sqlite_resolve.specs.declared.compiled.Compiled.{Compiled}
use Rattle.sqlite_trees.specs.Tree.{Trees}
use Rattle.sqlite_trees.specs.declared.store.Store.{Ghosts}
use Rattle.sqlite.specs.Does.{Tally, Does}
use Rattle.sqlite.specs.Listing.{understood}
use Rattle.sqlite.specs.State.{State, HasCleanDisk, Survives, Shown, FailsToQuery, IsTooLate, text_of}
use Rattle.sqlite.specs.declared.error.Error.{Error}
use Rattle.sqlite.specs.declared.error.Error.TheVariants.{InvalidQuery}
use Rattle.sqlite.specs.Effect.{Database}
use Rattle.sqlite.specs.Held.{Held, state}
use Rattle.office_base.specs.Tables.{Tables, after_puts}
use Rattle.office_base.specs.declared.puts.Put.{Put}
use Rattle.office_tables.specs.Standing.{Holds}
use Rattle.office_tables.specs.Schema.{statement_of, values_of_put}

-- the last commit of an open store holds this content
abbrev pub ShowsTables : State → Tables → Type 0
ShowsTables s t = IsTrue s.is_open → Holds s.committed t

-- the answer is right for any content that the last commit held
abbrev pub Tells : {S T E : Type 0} → Ghosts S → Held S → Held S → Result T E → (Tables → T → Type 0) → Type 0
Tells g old new result right = HasCleanDisk (state g new) → (t : Tables) → ShowsTables (state g old) t → IfOk result (right t)

-- In a database that holds an office, the rows that this text shows are read as this part of its content.
abbrev pub FindsPart : {S T : Type 0} → Ghosts S → List ℕ → Row → (List Row → T) → (Tables → T) → Type 0
FindsPart {S} g sql params read part = (before after : Held S) (rows : List Row) (t : Tables) → Holds (state g before).now t → Shown sql params (state g before) (state g after) rows → read rows ≡ part t

-- if the store is still open, it has the last commit that it had before
pub record Refused (old new : State) : Type 0 where
  pub was_open : IsTrue new.is_open → IsTrue old.is_open
  pub committed : IsTrue new.is_open → new.committed ≡ old.committed

-- The answer is right for any content that the last commit held. That commit stays as it was, and a stop can leave only what it could leave before.
abbrev pub TellsOnly : {S T E : Type 0} → Ghosts S → Held S → Held S → Result T E → (Tables → T → Type 0) → Type 0
TellsOnly g old new result right = Tells g old new result right × (HasCleanDisk (state g new) → Refused (state g old) (state g new)) × Survives (state g old) (state g new) (λ _. ⊥)

-- the store is open, the transaction continues, and nothing is committed
pub record Goes (old new : State) : Type 0 where
  pub mode : IsTrue new.in_transaction
  pub was_open : IsTrue old.is_open
  pub is_open : IsTrue new.is_open
  pub committed : new.committed ≡ old.committed

-- the statement of a put turns the first database into the second
abbrev pub MakesOne : Option ℕ → Put → Database → Database → Type 0
MakesOne limit put first second =
    (c : Compiled) × (understood first.schema (statement_of put) ≡ Ok c)
    × (tally : Tally) × Does limit (record { keys = Enforced; in_doubt = false; may_wait = false }) (values_of_put put) first (text_of (statement_of put) c) c.returning c.command (Ok (tally, second))

-- the statements of these puts turn the first database into the last, one after another
abbrev pub MakeAll : Option ℕ → List Put → Database → Database → Type 0
MakeAll limit [] first last = last ≡ first
MakeAll limit (put ∷ more) first last = (second : Database) × MakesOne limit put first second × MakeAll limit more second last

-- The transaction continues, nothing is committed, and these puts have been made.
pub record Puts (old new : State) (puts : List Put) : Type 0 where
  pub goes : Goes old new
  pub made : (t : Tables) → Holds old.now t → MakeAll old.step_limit puts old.now new.now
  pub tables : (t : Tables) → Holds old.now t → Holds new.now (after_puts puts t)

-- the trees of some database that holds this content
abbrev pub Leaves : Tables → Trees → Type 0
Leaves t trees = (db : Database) × (trees ≡ db.trees) × Holds db t

-- a commit of these puts into an open store leaves these trees
abbrev pub LeavesPuts : State → List Put → Trees → Type 0
LeavesPuts old puts trees = IsTrue old.is_open × ((t : Tables) → Holds old.committed t → Leaves (after_puts puts t) trees)

-- a stop may leave a database that holds this content
abbrev pub MayLeave : State → Tables → Type 0
MayLeave s u = (db : Database) × s.may_leave db.trees × Holds db u

-- The puts are committed: the store holds the office after them, and a stop leaves this.
pub record Applied (old new : State) (puts : List Put) : Type 0 where
  pub was_open : IsTrue old.is_open
  pub is_open : IsTrue new.is_open
  pub tables : (t : Tables) → Holds old.committed t → Holds new.committed (after_puts puts t)
  -- a stop leaves the trees of this commit and no others
  pub only : (db : Trees) → new.may_leave db → db ≡ new.committed.trees

-- the rows are an answer to the query, computed from the last commit
pub record IsAsked {S : Type 0} (g : Ghosts S) (sql : List ℕ) (params : Row) (old : Held S) (rows : List Row) : Type 0 where
  pub was_open : IsTrue (state g old).is_open
  pub settled : (state g old).now ≡ (state g old).committed
  pub after : Held S
  pub shown : Shown sql params (state g (record old { in_transaction = true })) (state g after) rows

-- the query fails with this error
abbrev pub IsRefusal : {S : Type 0} → Ghosts S → List ℕ → Row → Held S → Error → Type 0
IsRefusal {S} g sql params old e =
    ((mid : Held S) × (FailsToQuery sql params (state g (record old { in_transaction = true })) (state g mid) e ⊎ IsTooLate sql params (state g (record old { in_transaction = true })) (state g mid) e))
    ⊎ (e ≡ InvalidQuery)

-- why the query was not answered by a connection that is left so: no fault of the disk that it met is forgotten; or a transaction was under way
abbrev pub IsRefusedBy : {S : Type 0} → Ghosts S → List ℕ → Row → Held S → Held S → Error → Type 0
IsRefusedBy {S} g sql params old new e =
    ((mid : Held S) × ((state g mid).faults ≤ (state g new).faults)
    × (FailsToQuery sql params (state g (record old { in_transaction = true })) (state g mid) e ⊎ IsTooLate sql params (state g (record old { in_transaction = true })) (state g mid) e))
    ⊎ IsTrue old.in_transaction
