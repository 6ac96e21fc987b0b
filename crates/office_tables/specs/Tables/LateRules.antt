-- The table of notices whose tenders may be withdrawn late: the texts that create and change it, its columns, and how a row is written and read.
use Rattle.std.specs.Prelude.{ℕ, List, [], ◌∷◌, codes}
use Rattle.sqlite_value.specs.declared.value.Value.TheVariants.{Text}
use Rattle.sqlite_value.specs.Order.{Row, column, bytes}
use Rattle.sqlite_schema.specs.declared.schema.Table.{Table}
use Rattle.office_values.specs.Ids.{IsId, id_cmp}
use Rattle.office_base.specs.declared.records.LateRow.{LateRow}
use Rattle.office_base.specs.Tables.{late_key}
use Rattle.office_tables.specs.Forms.{Form, indexed_form, table_with, text_column}

abbrev pub create_late_rules : List ℕ
create_late_rules = codes "CREATE TABLE late_rules (notice TEXT NOT NULL PRIMARY KEY CHECK (length(notice) BETWEEN 1 AND 32)) STRICT"

abbrev pub late_rules : Table
late_rules = table_with (codes "late_rules") (text_column (codes "notice") ∷ []) (1 ∷ []) create_late_rules

-- inserts a notice whose tenders may be withdrawn late, or replaces the row that has its key
abbrev pub upsert_late_rules : List ℕ
upsert_late_rules = codes "INSERT INTO late_rules (notice) VALUES (?1) ON CONFLICT (notice) DO UPDATE SET notice = ?1"

-- the values of a notice whose tenders may be withdrawn late, in the order of the columns
abbrev pub late_values : LateRow → Row
late_values x = Text x.notice ∷ []

-- the notice whose tenders may be withdrawn late that a row is read as
abbrev pub late_read : Row → LateRow
late_read r = record { notice = bytes (column r 0) }

-- each field is in its range
abbrev pub LateFits : LateRow → Type 0
LateFits x = IsId x.notice

-- the table, the order of its keys, and how its rows are written and read
abbrev pub late_form : Form (List ℕ) LateRow
late_form = indexed_form late_rules id_cmp late_key late_values late_read
