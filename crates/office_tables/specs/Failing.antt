-- The reasons why records of an office aren't read and why changes of it aren't made.
use Rattle.std.specs.Prelude.{◌≡◌, ◌⊎◌, ◌≤◌, ◌++◌, ◌∷◌, ℕ, false, List, IsTrue, Option, Result, Ok, Err, IfErr}
use Rattle.sqlite_value.specs.Order.{Row}
use Rattle.sqlite_schema.specs.declared.schema.Keys.TheVariants.{Enforced}
use Rattle.sqlite_resolve.specs.declared.compiled.Compiled.{Compiled}
use Rattle.sqlite_trees.specs.declared.store.Store.{Ghosts}
use Rattle.sqlite.specs.Does.{Does}
use Rattle.sqlite.specs.Effect.{Database}
use Rattle.sqlite.specs.Held.{Held}
use Rattle.sqlite.specs.Listing.{understood}
use Rattle.sqlite.specs.State.{State, HasCleanDisk, text_of}
use Rattle.sqlite.specs.declared.error.Error.{Error}
use Rattle.sqlite.specs.declared.error.Error.TheVariants.{SqliteFailure}
use Rattle.sqlite.specs.declared.error.ErrorCode.TheVariants.{OutOfMemory}
use Rattle.office_base.specs.Faults.{IsFaultOf, one_fault_more}
use Rattle.office_base.specs.Tables.{Tables, after_puts}
use Rattle.office_base.specs.declared.puts.Put.{Put}
use Rattle.office_base.specs.declared.shelf.ShelfFault.{ShelfFault}
use Rattle.office_base.specs.declared.shelf.ShelfFault.TheVariants.{NoMemory, Store}
use Rattle.office_tables.specs.Standing.{Holds}
use Rattle.office_tables.specs.Schema.{statement_of, values_of_put}
use Rattle.office_tables.specs.Steps.{IsAsked, IsRefusal, ShowsTables, MakeAll}

-- the fault that an error of SQLite is reported as: too little memory, or a fault of the store
abbrev pub fault_of : Error → ShelfFault
fault_of (SqliteFailure OutOfMemory) = NoMemory
fault_of _ = Store

-- Why records aren't read: the query failed and its error is reported, or the rows are none that an office writes, or memory is too small.
abbrev pub IsUnread : {S : Type 0} → Ghosts S → List ℕ → Row → Held S → (List Row → Type 0) → ShelfFault → Type 0
IsUnread g sql params old unwritten fault =
    ((e : Error) × IsRefusal g sql params old e × (fault ≡ fault_of e)) ⊎ ((rows : List Row) × IsAsked g sql params old rows × IsFaultOf (unwritten rows) fault)

-- the error means too little memory, or it has this cause
abbrev pub IsExcused : Type 0 → Error → Type 0
IsExcused Cause e = (e ≡ SqliteFailure OutOfMemory) ⊎ Cause

-- the disk failed at least one more time; the count of faults stops at its largest number
abbrev pub DiskFails : State → State → Type 0
DiskFails old new = one_fault_more old.faults ≤ new.faults

-- The database understands a statement and rejects it. The change breaks a rule of a table, takes too many steps, or is too large to be stored.
abbrev pub Declines : Option ℕ → Database → List ℕ → Row → Type 0
Declines limit db text values =
    (c : Compiled) × (understood db.schema text ≡ Ok c)
    × (why : Option Error) × Does limit (record { keys = Enforced; in_doubt = false; may_wait = false }) values db (text_of text c) c.returning c.command (Err why)

-- the database rejects one of the puts, in the state that the puts before it made, which holds the office after those puts
pub record OneIsDeclined (limit : Option ℕ) (start : Database) (puts : List Put) : Type 0 where
  pub done : List Put
  pub put : Put
  pub more : List Put
  pub is : puts ≡ done ++ put ∷ more
  pub db : Database
  pub made : MakeAll limit done start db
  pub holds : (t : Tables) → Holds start t → Holds db (after_puts done t)
  pub declined : Declines limit db (statement_of put) (values_of_put put)

-- the disk failed, the store was shut before, or the database rejects one of the puts
abbrev pub StoreFails : State → State → Database → List Put → Type 0
StoreFails old new start puts = DiskFails old new ⊎ ((old.is_open ≡ false) ⊎ OneIsDeclined old.step_limit start puts)

-- puts into an office inside a transaction fail only for too little memory or because the store fails
abbrev pub ErrorHasCause : {T : Type 0} → State → State → List Put → Result T Error → Type 0
ErrorHasCause old new puts result = HasCleanDisk new → IsTrue old.in_transaction → (t : Tables) → Holds old.now t → IfErr result (IsExcused (StoreFails old new old.now puts))

-- a whole change fails if a transaction is already running or if the store fails
abbrev pub ChangeFails : State → State → List Put → Type 0
ChangeFails old new puts = IsTrue old.in_transaction ⊎ StoreFails old new old.committed puts

-- a change of the office that the last commit holds fails only for too little memory or for one of these causes
abbrev pub ChangeHasCause : {T : Type 0} → State → State → List Put → Result T Error → Type 0
ChangeHasCause old new puts result = HasCleanDisk new → (t : Tables) → ShowsTables old t → IfErr result (IsExcused (ChangeFails old new puts))
