-- The query for the version of an office.
use Rattle.std.specs.Prelude.{ℕ, List, [], ◌∷◌, codes, pos, IsTrue}
use Rattle.sqlite_value.specs.declared.value.Value.TheVariants.{Int}
use Rattle.sqlite_value.specs.Order.{Row}
use Rattle.sqlite_trees.specs.declared.store.Store.{Ghosts}
use Rattle.sqlite_resolve.specs.declared.error.CompileError.{CompileError}
use Rattle.sqlite.specs.Effect.{Database}
use Rattle.sqlite.specs.Held.{Held}
use Rattle.sqlite.specs.State.{State}
use Rattle.sqlite.specs.declared.error.Error.TheVariants.{SqlInputError}
use Rattle.office_base.specs.declared.records.ClockRow.{ClockRow}
use Rattle.office_tables.specs.Forms.{RowsStand}
use Rattle.office_tables.specs.Tables.Office.{clock_form_of, office}
use Rattle.office_tables.specs.Known.{IsIn}
use Rattle.office_tables.specs.Steps.{IsRefusal}

abbrev pub get_version : List ℕ
get_version = codes "SELECT version FROM office"

-- one row that has this version
abbrev pub one_version : ℕ → List Row
one_version n = (Int (pos n) ∷ []) ∷ []

-- the table `office` exists and has one row, with this version and this clock
pub record HasVersion (n : ℕ) (clock : ClockRow) (db : Database) : Type 0 where
  pub place : ℕ
  pub table : IsIn db.schema office place
  pub stand : RowsStand (clock_form_of n) (db.trees place) (clock ∷ [])

-- the last commit of an open store has the table `office` with one row, with this version and this clock
abbrev pub ShowsVersion : ℕ → ClockRow → State → Type 0
ShowsVersion n clock s = IsTrue s.is_open → HasVersion n clock s.committed

-- the schema rejects the text of the query: it has no table that could answer it
abbrev pub HasNoVersion : {S : Type 0} → Ghosts S → Held S → Type 0
HasNoVersion g old = (why : CompileError) × IsRefusal g get_version [] old (SqlInputError why)
