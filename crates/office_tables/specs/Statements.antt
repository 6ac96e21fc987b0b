-- The statements of a migration, and how one of them fails.
use Rattle.std.specs.Prelude.{◌≡◌, ◌⊎◌, ◌≤◌, ℕ, cond, nat_lt, Ok, Err, List, [], ◌∷◌, ◌++◌, map}
use Rattle.sqlite_value.specs.Order.{Row}
use Rattle.sqlite_trees.specs.declared.store.Store.{Ghosts}
use Rattle.sqlite.specs.Held.{Held, state}
use Rattle.sqlite.specs.State.{ExecutesInside, IsNotRun}
use Rattle.sqlite.specs.declared.error.Error.{Error}
use Rattle.office_base.specs.declared.puts.Put.TheVariants as puts
use Rattle.office_base.specs.declared.records.ClockRow.{ClockRow}
use Rattle.office_base.specs.declared.records.NoticeRow.{NoticeRow}
use Rattle.office_tables.specs.Earlier.{drop_notices, drop_version, had_former}
use Rattle.office_tables.specs.Editions.{later_line, later_tables}
use Rattle.office_tables.specs.Schema.{statement_of, values_of_put}
use Rattle.office_tables.specs.Tables.Office.{clock_values, upsert_office}
use Rattle.office_tables.specs.Version.{get_version}

-- a text of SQL with its values
pub record Statement : Type 0 where
  pub text : List ℕ
  pub values : Row

-- these statements were run inside a transaction, one after another; between them the content stayed as it was
abbrev pub RunAll : {S : Type 0} → Ghosts S → List Statement → Held S → Held S → Type 0
RunAll g [] old new = (state g new).now ≡ (state g old).now
RunAll {S} g (s ∷ more) old new =
    (first : Held S) × (second : Held S) × ((state g first).now ≡ (state g old).now)
    × ((count : ℕ) × ExecutesInside 0 s.text s.values (state g first) (state g second) (Ok count)) × RunAll g more second new

-- the first of these statements fails with this error, or the question before it whether the store is ready
abbrev pub FirstFails : {S : Type 0} → Ghosts S → List Statement → Held S → Held S → Error → Type 0
FirstFails g [] old new e = IsNotRun (state g old) (state g new) get_version [] e
FirstFails g (s ∷ more) old new e =
    IsNotRun (state g old) (state g new) get_version [] e ⊎ ExecutesInside 0 s.text s.values (state g old) (state g new) (Err e)

-- some of these statements were run, and the next one failed with this error
pub record OneFails {S : Type 0} (g : Ghosts S) (statements : List Statement) (old new : Held S) (e : Error) : Type 0 where
  pub done : List Statement
  pub more : List Statement
  pub is : statements ≡ done ++ more
  pub mid : Held S
  pub ran : RunAll g done old mid
  pub up : (state g old).faults ≤ (state g mid).faults
  pub fails : FirstFails g more mid new e

-- the statements that make those of these tables that came after this edition
abbrev pub creates : ℕ → List (ℕ × List ℕ × List ℕ) → List Statement
creates edition [] = []
creates edition (line ∷ more) = cond (nat_lt edition line.0) (record { text = line.2; values = [] } ∷ []) [] ++ creates edition more

-- the statement that deletes the notices in `notices`, if the edition has them there
abbrev pub drops : ℕ → List Statement
drops edition = cond (had_former edition) (record { text = drop_notices; values = [] } ∷ []) []

-- those that renew the version with this clock
abbrev pub renewal : ℕ → ClockRow → List Statement
renewal edition clock = drops edition ++ record { text = drop_version; values = [] } ∷ record { text = upsert_office; values = clock_values clock } ∷ []

-- the first half of a migration
abbrev pub beginning : ℕ → ClockRow → List Statement
beginning edition clock = creates edition (map later_line later_tables) ++ renewal edition clock

abbrev pub notice_put : NoticeRow → Statement
notice_put row = record { text = statement_of (puts.Notice row); values = values_of_put (puts.Notice row) }

-- all statements of a migration
abbrev pub migration : ℕ → ClockRow → List NoticeRow → List Statement
migration edition clock notices = beginning edition clock ++ map notice_put notices
