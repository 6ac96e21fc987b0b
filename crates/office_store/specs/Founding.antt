-- How an opening finds, makes or migrates an office in a database.
use Rattle.std.specs.Prelude.{◌≡◌, ◌⊎◌, ◌&&◌, ℕ, Bool, true, false, not, nat_lt, nat_le, pos, IsTrue, List, [], ◌∷◌}
use Rattle.std.specs.List.{list_any}
use Rattle.sqlite_value.specs.declared.value.Value.TheVariants.{Int}
use Rattle.sqlite_value.specs.Order.{Row}
use Rattle.sqlite_trees.specs.Tree.{Trees}
use Rattle.sqlite_trees.specs.declared.store.Store.{Ghosts}
use Rattle.sqlite_schema.specs.declared.schema.Schema.{Schema}
use Rattle.sqlite_catalog.specs.Change.{is_used}
use Rattle.sqlite.specs.Effect.{Database, IsDatabase}
use Rattle.sqlite.specs.Held.{Held, state}
use Rattle.sqlite.specs.State.{State}
use Rattle.sqlite.specs.declared.error.Error.{Error}
use Rattle.office_base.specs.Tables.{Tables, no_tables}
use Rattle.office_base.specs.declared.shelf.ShelfFault.{ShelfFault}
use Rattle.office_base.specs.declared.shelf.ShelfFault.TheVariants as shelf
use Rattle.office_tables.specs.Earlier.{HoldsEdition, IsMigrated}
use Rattle.office_tables.specs.Editions.{edition_of, has_late}
use Rattle.office_tables.specs.Failing.{DiskFails, fault_of}
use Rattle.office_tables.specs.Making.{KeepsOthers}
use Rattle.office_tables.specs.Schema.{table_of, all_tables}
use Rattle.office_tables.specs.Standing.{Holds}
use Rattle.office_tables.specs.Steps.{Leaves, Refused, IsAsked, IsRefusedBy}
use Rattle.office_tables.specs.Tables.Office.{this_version}
use Rattle.office_tables.specs.Version.{get_version, HasNoVersion}
use Rattle.office_store.specs.Forms.{HasForms}
use Rattle.office_store.specs.Others.{KeepsRest, leads_there}
use Rattle.office_store.specs.declared.found.OpenFault.{OpenFault}
use Rattle.office_store.specs.declared.found.OpenFault.TheVariants as fault
use Rattle.office_store.specs.declared.opened.Origin.{Origin}
use Rattle.office_store.specs.declared.opened.Origin.TheVariants as from

-- a table, an index or a view of the schema has the name of a table of the office
abbrev pub takes_a_name : Schema → Bool
takes_a_name schema = list_any (λ k. is_used schema (table_of k).name) all_tables

-- the version in the rows: the number in their one row, or 0, which is no version, if they aren't one such row
abbrev pub version_in : List Row → ℕ
version_in ((Int (pos n) ∷ []) ∷ []) = n
version_in _ = 0

-- the rows have no version that this program knows
abbrev pub is_other_version : List Row → Bool
is_other_version rows = not (nat_lt 0 (version_in rows) && nat_le (version_in rows) this_version)

-- the query for the version returned rows that pass this test
abbrev pub Answered : {S : Type 0} → Ghosts S → Held S → (List Row → Bool) → Type 0
Answered g old passes = (rows : List Row) × IsAsked g get_version [] old rows × IsTrue (passes rows)

-- the query returned a version that this program knows, and by this version the tables are of this edition
abbrev pub IsOfEdition : {S : Type 0} → Ghosts S → ℕ → Held S → Type 0
IsOfEdition g edition old =
    (rows : List Row) × IsAsked g get_version [] old rows × (is_other_version rows ≡ false) × (edition_of (version_in rows) (has_late old.schema) ≡ edition)

-- the program made an empty office, and the tables that existed keep their rows
pub record Founded (old new : State) : Type 0 where
  pub was_open : IsTrue old.is_open
  pub is_open : IsTrue new.is_open
  pub tables : Holds new.committed no_tables
  pub others : KeepsOthers old.committed new.committed
  -- a stop leaves the trees of this commit and no others
  pub only : (db : Trees) → new.may_leave db → db ≡ new.committed.trees

-- if the store is open, its last commit is a sound database
abbrev pub IsSoundOpen : State → Type 0
IsSoundOpen s = IsTrue s.is_open → IsDatabase s.committed

-- a commit that makes an office in a sound database leaves these trees
abbrev pub LeavesNew : State → Trees → Type 0
LeavesNew old trees = IsTrue old.is_open × (IsDatabase old.committed → Leaves no_tables trees)

-- The program migrated an office of this edition, with its content. Nothing of other programs led to the changed tables, and all other tables keep their
-- rows.
pub record Migrated (edition : ℕ) (old new : State) : Type 0 where
  pub was_open : IsTrue old.is_open
  pub is_open : IsTrue new.is_open
  pub tables : (t : Tables) → HoldsEdition edition old.committed t → IsMigrated edition t old.committed new.committed
  pub free : leads_there edition old.committed.schema ≡ false
  pub rest : (t : Tables) → HoldsEdition edition old.committed t → KeepsRest edition old.committed new.committed
  -- a stop leaves the trees of this commit and no others
  pub only : (db : Trees) → new.may_leave db → db ≡ new.committed.trees

-- a commit of a migration leaves these trees: an office of this program with the same content, and the other tables with their rows
abbrev pub LeavesMigrated : ℕ → State → Trees → Type 0
LeavesMigrated edition old trees =
    IsTrue old.is_open
    × ((t : Tables) → HoldsEdition edition old.committed t → (db : Database) × (trees ≡ db.trees) × IsMigrated edition t old.committed db × KeepsRest edition old.committed db)

-- Each table of the office had its form. An office of an earlier edition was migrated; for one of this program the last commit stays as it was.
abbrev pub IsMadeCurrent : Bool → ℕ → State → State → Type 0
IsMadeCurrent true edition old new = HasForms edition old.committed.schema × Migrated edition old new
IsMadeCurrent false edition old new = (IsTrue new.is_open → HasForms edition old.committed.schema) × Refused old new

-- the origin that an opening reports for an office that was migrated, or that was used as it was
abbrev pub origin_of : Bool → Origin
origin_of true = from.Migrated
origin_of false = from.Found

-- the migration of an office of an earlier edition may commit these trees
abbrev pub LeavesReadied : ℕ → State → Trees → Type 0
LeavesReadied edition old trees = IsTrue (nat_lt edition this_version) × LeavesMigrated edition old trees

-- An opening may commit these trees. They are an empty office, if the schema rejected the query for the version and no table's name was taken. Or they are a
-- migrated office.
abbrev pub LeavesOffice : {S : Type 0} → Ghosts S → Held S → Trees → Type 0
LeavesOffice g old trees =
    (IsTrue (state g old).is_open × HasNoVersion g old × (takes_a_name old.schema ≡ false) × Leaves no_tables trees)
    ⊎ ((edition : ℕ) × IsOfEdition g edition old × LeavesReadied edition (state g old) trees)

-- The opening found an office of this program and left it as it was, or found one of an earlier edition and migrated it. Or it found no office and no table's
-- name taken, and made an office.
abbrev pub Enters : {S : Type 0} → Ghosts S → Origin → Held S → Held S → Type 0
Enters g from.Found old new = IsOfEdition g this_version old × IsMadeCurrent false this_version (state g old) (state g new)
Enters g from.Migrated old new = (edition : ℕ) × IsOfEdition g edition old × IsTrue (nat_lt edition this_version) × IsMadeCurrent true edition (state g old) (state g new)
Enters g from.Made old new = HasNoVersion g old × (takes_a_name old.schema ≡ false) × Founded (state g old) (state g new)

-- The answer is another version or no single row. Or the schema rejected the query, and the name of a table of the office is taken.
abbrev pub IsNoOffice : {S : Type 0} → Ghosts S → Held S → Type 0
IsNoOffice g old = Answered g old is_other_version ⊎ (HasNoVersion g old × (takes_a_name old.schema ≡ true))

-- the fault of an opening that this fault of the store becomes
abbrev pub opening_of : ShelfFault → OpenFault
opening_of shelf.NoMemory = fault.NoMemory
opening_of shelf.Store = fault.Store

-- an office of this edition isn't simply entered: it has to be migrated, or one of its tables doesn't have its form
abbrev pub IsHindered : ℕ → State → Type 0
IsHindered edition s = IsTrue (nat_lt edition this_version) ⊎ ¬ (HasForms edition s.committed.schema)

-- Why an opening fails as the store does. The disk failed. Or the question for the version was refused, though there was enough memory. Or an office of an earlier
-- version couldn't be migrated, or one of this version has a table in another form. Or there was none, and it couldn't be made.
abbrev pub CanNotEnter : {S : Type 0} → Ghosts S → Held S → Held S → Type 0
CanNotEnter g old new =
    DiskFails (state g old) (state g new)
    ⊎ (((e : Error) × IsRefusedBy g get_version [] old new e × (fault_of e ≡ shelf.Store))
    ⊎ (((edition : ℕ) × IsOfEdition g edition old × IsHindered edition (state g old))
    ⊎ (HasNoVersion g old × (takes_a_name old.schema ≡ false))))

-- this is why, if the connection was open and in no transaction
abbrev pub EntersOrCanNot : {S : Type 0} → Ghosts S → OpenFault → Held S → Held S → Type 0
EntersOrCanNot g why old new = why ≡ fault.Store → IsTrue (state g old).is_open → old.in_transaction ≡ false → CanNotEnter g old new
