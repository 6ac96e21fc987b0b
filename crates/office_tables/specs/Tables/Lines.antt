-- The table of budget lines: the texts that create and change it, its columns, and how a row is written and read.
use Rattle.std.specs.Prelude.{◌≤◌, ℕ, List, [], ◌∷◌, codes, pos}
use Rattle.sqlite_value.specs.declared.value.Value.TheVariants.{Int, Text}
use Rattle.sqlite_value.specs.Order.{Row, column, bytes}
use Rattle.sqlite_schema.specs.declared.schema.Table.{Table}
use Rattle.office_values.specs.Ids.{IsId, id_cmp}
use Rattle.office_values.specs.Texts.{IsTextLine}
use Rattle.office_values.specs.Money.{total_limit}
use Rattle.office_base.specs.declared.records.LineRow.{LineRow}
use Rattle.office_base.specs.Tables.{line_key}
use Rattle.office_tables.specs.Forms.{Form, indexed_form, table_with, text_column, number_column}
use Rattle.office_tables.specs.Values.{number_in_value}

abbrev pub create_lines : List ℕ
create_lines = codes "CREATE TABLE lines (line TEXT NOT NULL PRIMARY KEY CHECK (length(line) BETWEEN 1 AND 32), title TEXT NOT NULL CHECK (length(title) BETWEEN 1 AND 200), appropriation INTEGER NOT NULL CHECK (appropriation BETWEEN 0 AND 1000000000000000), free INTEGER NOT NULL CHECK (free BETWEEN 0 AND 1000000000000000)) STRICT"

abbrev pub lines : Table
lines =
    table_with (codes "lines") (text_column (codes "line") ∷ text_column (codes "title") ∷ number_column (codes "appropriation")
    ∷ number_column (codes "free") ∷ []) (1 ∷ []) create_lines

-- inserts a budget line, or replaces the row that has its key
abbrev pub upsert_lines : List ℕ
upsert_lines = codes "INSERT INTO lines (line, title, appropriation, free) VALUES (?1, ?2, ?3, ?4) ON CONFLICT (line) DO UPDATE SET title = ?2, appropriation = ?3, free = ?4"

-- the values of a budget line, in the order of the columns
abbrev pub line_values : LineRow → Row
line_values x = Text x.line ∷ Text x.title ∷ Int (pos x.appropriation) ∷ Int (pos x.free) ∷ []

-- the budget line that a row is read as
abbrev pub line_read : Row → LineRow
line_read r = record { line = bytes (column r 0); title = bytes (column r 1); appropriation = number_in_value (column r 2); free = number_in_value (column r 3) }

-- each field is in its range
abbrev pub LineFits : LineRow → Type 0
LineFits x = IsId x.line × IsTextLine x.title × (x.appropriation ≤ total_limit) × (x.free ≤ total_limit)

-- the table, the order of its keys, and how its rows are written and read
abbrev pub line_form : Form (List ℕ) LineRow
line_form = indexed_form lines id_cmp line_key line_values line_read
