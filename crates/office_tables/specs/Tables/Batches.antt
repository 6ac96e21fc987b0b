-- The table of budget files: the texts that create and change it, its columns, and how a row is written and read.
use Rattle.std.specs.Prelude.{◌≤◌, ℕ, List, [], ◌∷◌, codes, pos}
use Rattle.sqlite_value.specs.declared.value.Value.TheVariants.{Int, Text}
use Rattle.sqlite_value.specs.Order.{Row, column, bytes}
use Rattle.sqlite_schema.specs.declared.schema.Table.{Table}
use Rattle.office_values.specs.Ids.{IsId, id_cmp}
use Rattle.office_values.specs.Moments.{last_moment}
use Rattle.office_base.specs.declared.records.BatchRow.{BatchRow}
use Rattle.office_base.specs.Tables.{batch_key}
use Rattle.office_tables.specs.Forms.{Form, indexed_form, table_with, text_column, number_column}
use Rattle.office_tables.specs.Values.{number_in_value}

abbrev pub create_batches : List ℕ
create_batches = codes "CREATE TABLE batches (batch TEXT NOT NULL PRIMARY KEY CHECK (length(batch) BETWEEN 1 AND 32), moment INTEGER NOT NULL CHECK (moment BETWEEN 0 AND 4102444799), rows INTEGER NOT NULL CHECK (rows BETWEEN 0 AND 500)) STRICT"

abbrev pub batches : Table
batches =
    table_with (codes "batches") (text_column (codes "batch") ∷ number_column (codes "moment") ∷ number_column (codes "rows") ∷ []) (1 ∷ []) create_batches

-- inserts a budget file, or replaces the row that has its key
abbrev pub upsert_batches : List ℕ
upsert_batches = codes "INSERT INTO batches (batch, moment, rows) VALUES (?1, ?2, ?3) ON CONFLICT (batch) DO UPDATE SET moment = ?2, rows = ?3"

-- the values of a budget file, in the order of the columns
abbrev pub batch_values : BatchRow → Row
batch_values x = Text x.batch ∷ Int (pos x.moment) ∷ Int (pos x.rows) ∷ []

-- the budget file that a row is read as
abbrev pub batch_read : Row → BatchRow
batch_read r = record { batch = bytes (column r 0); moment = number_in_value (column r 1); rows = number_in_value (column r 2) }

-- each field is in its range
abbrev pub BatchFits : BatchRow → Type 0
BatchFits x = IsId x.batch × (x.moment ≤ last_moment) × (x.rows ≤ 500)

-- the table, the order of its keys, and how its rows are written and read
abbrev pub batch_form : Form (List ℕ) BatchRow
batch_form = indexed_form batches id_cmp batch_key batch_values batch_read
