-- The table of the merges of notices' releases: the texts that create and change it, its columns, and how a row is written and read.
use Rattle.std.specs.Prelude.{ℕ, List, [], ◌∷◌, codes, IsUtf8}
use Rattle.sqlite_value.specs.declared.value.Value.TheVariants.{Text}
use Rattle.sqlite_value.specs.Order.{Row, column, bytes}
use Rattle.sqlite_schema.specs.declared.schema.Table.{Table}
use Rattle.office_values.specs.Ids.{IsId, id_cmp}
use Rattle.office_base.specs.declared.records.CompiledRow.{CompiledRow}
use Rattle.office_base.specs.Tables.{compiled_key}
use Rattle.office_tables.specs.Forms.{Form, indexed_form, table_with, text_column}

abbrev pub create_compiled : List ℕ
create_compiled = codes "CREATE TABLE compiled (notice TEXT NOT NULL PRIMARY KEY CHECK (length(notice) BETWEEN 1 AND 32), text TEXT NOT NULL) STRICT"

abbrev pub compiled : Table
compiled = table_with (codes "compiled") (text_column (codes "notice") ∷ text_column (codes "text") ∷ []) (1 ∷ []) create_compiled

-- inserts the merge of a notice's releases, or replaces the row that has its key
abbrev pub upsert_compiled : List ℕ
upsert_compiled = codes "INSERT INTO compiled (notice, text) VALUES (?1, ?2) ON CONFLICT (notice) DO UPDATE SET text = ?2"

-- the values of the merge of a notice's releases, in the order of the columns
abbrev pub compiled_values : CompiledRow → Row
compiled_values x = Text x.notice ∷ Text x.text ∷ []

-- the merge of a notice's releases that a row is read as
abbrev pub compiled_read : Row → CompiledRow
compiled_read r = record { notice = bytes (column r 0); text = bytes (column r 1) }

-- each field is in its range
abbrev pub CompiledFits : CompiledRow → Type 0
CompiledFits x = IsId x.notice × IsUtf8 x.text

-- the table, the order of its keys, and how its rows are written and read
abbrev pub compiled_form : Form (List ℕ) CompiledRow
compiled_form = indexed_form compiled id_cmp compiled_key compiled_values compiled_read
