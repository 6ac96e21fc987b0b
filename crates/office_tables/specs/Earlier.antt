-- Offices that earlier programs made, by the edition of their tables, and their migration to the tables of this program.
use Rattle.std.specs.Prelude.{◌≡◌, ◌⊎◌, ℕ, Bool, true, false, nat_lt, IsTrue, Result, Ok, IfOk, List, [], ◌∷◌, codes}
use Rattle.sqlite_value.specs.Order.{Row}
use Rattle.sqlite_schema.specs.declared.schema.Schema.{Schema}
use Rattle.sqlite_schema.specs.declared.schema.Table.{Table}
use Rattle.sqlite_rules.specs.Lists.{Has}
use Rattle.sqlite_trees.specs.declared.store.Store.{Ghosts}
use Rattle.sqlite.specs.Effect.{Database, IsDatabase}
use Rattle.sqlite.specs.Held.{Held, state}
use Rattle.sqlite.specs.State.{State, HasCleanDisk, ExecutesInside}
use Rattle.office_base.specs.Tables.{Tables}
use Rattle.office_base.specs.declared.records.ClockRow.{ClockRow}
use Rattle.office_base.specs.declared.records.NoticeRow.{NoticeRow}
use Rattle.office_tables.specs.Forms.{RowsStand}
use Rattle.office_tables.specs.Tables.Notices.{former_form}
use Rattle.office_tables.specs.Tables.Office.{this_version, clock_values, clock_form_of, upsert_office}
use Rattle.office_tables.specs.Apart.{AddsNoReference, LeadsInside}
use Rattle.office_tables.specs.Schema.{OfficeTable, table_of, StandFor}
use Rattle.office_tables.specs.Editions.{version_of, lacks_table, has_table}
use Rattle.office_tables.specs.Known.{IsIn, Places}
use Rattle.office_tables.specs.Making.{Makes}
use Rattle.office_tables.specs.Standing.{Holds}
use Rattle.office_tables.specs.Steps.{Goes}
use Rattle.office_tables.specs.Schema.OfficeTable.{Notices, FormerNotices, Office}

-- offices of this edition keep their notices in the table `notices`, because they were made before the table `notices_2`
abbrev pub had_former : ℕ → Bool
had_former edition = lacks_table edition Notices

-- the notices that are stored in `notices`: all of them or none
abbrev pub former_part : Bool → List NoticeRow → List NoticeRow
former_part true rows = rows
former_part false rows = []

-- the notices that are stored in `notices_2`: those that aren't in `notices`
abbrev pub other_part : Bool → List NoticeRow → List NoticeRow
other_part true rows = []
other_part false rows = rows

-- the content of the office without the notices that are stored in `notices`
abbrev pub besides_former : ℕ → Tables → Tables
besides_former edition t = record t { notices = other_part (had_former edition) t.notices }

-- the rows of `notices` hold these notices, which ask for no performance security. If the edition doesn't use the table, it has no rows.
abbrev pub FormerStand : Bool → List Row → List NoticeRow → Type 0
FormerStand true rows notices = RowsStand former_form rows notices
FormerStand false rows notices = rows ≡ []

-- the rows of a table hold its part of the content. The row of the clock has the version of this edition.
abbrev pub StandForEdition : ℕ → OfficeTable → List Row → Tables → Type 0
StandForEdition edition FormerNotices rows t = FormerStand (had_former edition) rows t.notices
StandForEdition edition Office rows t = RowsStand (clock_form_of (version_of edition)) rows (t.clock ∷ [])
StandForEdition edition k rows t = StandFor k rows (besides_former edition t)

-- The table exists and holds its part of the content. Or the edition doesn't have it: then the schema has no table of its name, and the content nothing for
-- it.
abbrev pub StandsOrMissing : ℕ → Database → Tables → OfficeTable → ℕ → Type 0
StandsOrMissing edition db t k n =
    ((lacks_table edition k ≡ false) × IsIn db.schema (table_of k) n × StandForEdition edition k (db.trees n) t)
    ⊎ ((lacks_table edition k ≡ true) × (has_table db.schema (table_of k).name ≡ false) × StandFor k [] (besides_former edition t))

-- the database is sound, has the tables of an office of this edition, and they hold its content
pub record HoldsEdition (edition : ℕ) (db : Database) (t : Tables) : Type 0 where
  pub sound : IsDatabase db
  pub places : Places
  pub each : (k : OfficeTable) → StandsOrMissing edition db t k (places k)

-- the database holds an office of an edition before this program's
abbrev pub HoldsEarlier : Database → Tables → Type 0
HoldsEarlier db t = (edition : ℕ) × IsTrue (nat_lt edition this_version) × HoldsEdition edition db t

-- the database holds an office, in the tables of this program or of an earlier one
abbrev pub HoldsOffice : Database → Tables → Type 0
HoldsOffice db t = Holds db t ⊎ HoldsEarlier db t

-- the last commit of an open store holds an office of this edition
abbrev pub ShowsEdition : ℕ → State → Tables → Type 0
ShowsEdition edition s t = IsTrue s.is_open → HoldsEdition edition s.committed t

-- the last commit of an open store holds an office of any edition
abbrev pub ShowsOffice : State → Tables → Type 0
ShowsOffice s t = IsTrue s.is_open → HoldsOffice s.committed t

-- the answer is right for the content of any office that the last commit held, whatever its edition
abbrev pub TellsEdition : {S T E : Type 0} → Ghosts S → Held S → Held S → Result T E → (ℕ → Tables → T → Type 0) → Type 0
TellsEdition g old new result right = HasCleanDisk (state g new) → (edition : ℕ) (t : Tables) → ShowsEdition edition (state g old) t → IfOk result (right edition t)

-- the tables whose rows a migration changes: `office`, and both tables of notices if the notices move from one to the other
abbrev pub changed_where : Bool → List OfficeTable
changed_where true = Office ∷ FormerNotices ∷ Notices ∷ []
changed_where false = Office ∷ []

abbrev pub changed_tables : ℕ → List OfficeTable
changed_tables edition = changed_where (had_former edition)

-- Marked trees: none of them is of a table that the migration changes, and their foreign keys lead to marked trees alone.
pub record AreApart (edition : ℕ) (schema : Schema) (marked : ℕ → Bool) : Type 0 where
  pub inside : LeadsInside schema marked
  pub others : (k : OfficeTable) → Has (changed_tables edition) k → (n : ℕ) → IsIn schema (table_of k) n → marked n ≡ false

-- Each table of the old database still exists. It keeps its rows unless the migration changes it or its foreign keys lead to such a table, directly or not.
abbrev pub KeepsApart : ℕ → Database → Database → Type 0
KeepsApart edition old new =
    (t : Table) → Has old.schema.tables t → Has new.schema.tables t × ((marked : ℕ → Bool) → AreApart edition new.schema marked → marked t.tree ≡ true → new.trees t.tree ≡ old.trees t.tree)

-- an office of this program with this content replaces the office of this edition, and the other tables are kept
pub record IsMigrated (edition : ℕ) (t : Tables) (old new : Database) : Type 0 where
  pub held : Holds new t
  pub others : KeepsApart edition old new
  pub added : AddsNoReference old.schema new.schema

-- the tables that the edition has not were made, and perhaps other tables of the office
abbrev pub MakesMissing : ℕ → State → State → Type 0
MakesMissing edition old new = (made : List OfficeTable) × ((k : OfficeTable) → lacks_table edition k ≡ true → Has made k) × Makes old new made

-- the text that deletes the rows of `notices`
abbrev pub drop_notices : List ℕ
drop_notices = codes "DELETE FROM notices"

abbrev pub drop_version : List ℕ
drop_version = codes "DELETE FROM office"

-- the rows of `notices` are deleted if they are notices of this edition; else nothing happens
abbrev pub DropsFormer : {S : Type 0} → Ghosts S → Bool → Held S → Held S → Type 0
DropsFormer g true old new = (count : ℕ) × ExecutesInside 0 drop_notices [] (state g old) (state g new) (Ok count)
DropsFormer g false old new = new ≡ old

-- a transaction deletes the former notices and the version, and then puts this program's version with this clock
pub record Renews {S : Type 0} (g : Ghosts S) (edition : ℕ) (clock : ClockRow) (old new : Held S) : Type 0 where
  pub first : Held S
  pub second : Held S
  pub dropped : DropsFormer g (had_former edition) old first
  pub freed : (count : ℕ) × ExecutesInside 0 drop_version [] (state g first) (state g second) (Ok count)
  pub put : (count : ℕ) × ExecutesInside 0 upsert_office (clock_values clock) (state g second) (state g new) (Ok count)

-- The transaction continues and nothing is committed. It has made an office of this program from one of this edition with this clock. The notices that were
-- in `notices` must still be put.
pub record Begins (edition : ℕ) (clock : ClockRow) (old new : State) : Type 0 where
  pub goes : Goes old new
  pub tables : (t : Tables) → HoldsEdition edition old.now t → t.clock ≡ clock → IsMigrated edition (besides_former edition t) old.now new.now
