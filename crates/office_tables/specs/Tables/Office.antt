-- The table of the clock, which has one row: the texts that create and change it, its columns, and how the row is written and read.
use Rattle.std.specs.Prelude.{◌≤◌, ◌^◌, ℕ, List, [], ◌∷◌, codes, pos}
use Rattle.std.specs.declared.cmp.Ordering.{Ordering}
use Rattle.std.specs.declared.cmp.Ordering.TheVariants.{Equal}
use Rattle.sqlite_value.specs.declared.value.Value.TheVariants.{Int}
use Rattle.sqlite_value.specs.Order.{Row, column}
use Rattle.sqlite_schema.specs.declared.schema.Table.{Table}
use Rattle.office_values.specs.Moments.{last_moment}
use Rattle.office_base.specs.declared.records.ClockRow.{ClockRow}
use Rattle.office_tables.specs.Forms.{Form, rowid_form, table_by_rowid, number_column}
use Rattle.office_tables.specs.Values.{number_in_value}

abbrev pub create_office : List ℕ
create_office = codes "CREATE TABLE office (version INTEGER NOT NULL PRIMARY KEY CHECK (version BETWEEN 1 AND 2147483647), moment INTEGER NOT NULL CHECK (moment BETWEEN 0 AND 4102444799), receipts INTEGER NOT NULL CHECK (receipts BETWEEN 0 AND 1000000000), awards INTEGER NOT NULL CHECK (awards BETWEEN 0 AND 1000000000)) STRICT"

abbrev pub office : Table
office =
    table_by_rowid (codes "office") (number_column (codes "version") ∷ number_column (codes "moment") ∷ number_column (codes "receipts")
    ∷ number_column (codes "awards") ∷ []) create_office

-- inserts the clock, or replaces the row that has this version
abbrev pub upsert_office : List ℕ
upsert_office = codes "INSERT INTO office (version, moment, receipts, awards) VALUES (?1, ?2, ?3, ?4) ON CONFLICT (version) DO UPDATE SET moment = ?2, receipts = ?3, awards = ?4"

-- the one key that all clocks have, so that the table has one row
abbrev pub clock_key : ClockRow → Unit {0}
clock_key x = tt

abbrev pub clock_cmp : Unit {0} → Unit {0} → Ordering
clock_cmp a b = Equal

-- the version of the tables that this program makes
abbrev pub this_version : ℕ
this_version = 2

-- the values of the one row: a version of the tables, then the clock
abbrev pub clock_values_of : ℕ → ClockRow → Row
clock_values_of version x = Int (pos version) ∷ Int (pos x.moment) ∷ Int (pos x.receipts) ∷ Int (pos x.awards) ∷ []

abbrev pub clock_values : ClockRow → Row
clock_values x = clock_values_of this_version x

-- the clock that a row is read as
abbrev pub clock_read : Row → ClockRow
clock_read r = record { moment = number_in_value (column r 1); receipts = number_in_value (column r 2); awards = number_in_value (column r 3) }

-- each field is in its range
abbrev pub ClockFits : ClockRow → Type 0
ClockFits x = (x.moment ≤ last_moment) × (x.receipts ≤ 10 ^ 9) × (x.awards ≤ 10 ^ 9)

-- the table, with this version in its row
abbrev pub clock_form_of : ℕ → Form (Unit {0}) ClockRow
clock_form_of version = rowid_form office clock_cmp clock_key (clock_values_of version) clock_read

abbrev pub clock_form : Form (Unit {0}) ClockRow
clock_form = clock_form_of this_version
