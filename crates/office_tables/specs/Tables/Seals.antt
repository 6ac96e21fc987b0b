-- The table of tenders' bytes: the texts that create and change it, its columns, and how a row is written and read.
use Rattle.std.specs.Prelude.{ℕ, List, [], ◌∷◌, codes, pos}
use Rattle.std.specs.Ordering.{nat_cmp}
use Rattle.sqlite_value.specs.declared.value.Value.TheVariants.{Int, Blob}
use Rattle.sqlite_value.specs.Order.{Row, column, bytes}
use Rattle.sqlite_schema.specs.declared.schema.Table.{Table}
use Rattle.office_commands.specs.SealedBytes.{IsSealed}
use Rattle.office_base.specs.declared.records.SealRow.{SealRow}
use Rattle.office_base.specs.Tables.{seal_key}
use Rattle.office_tables.specs.Forms.{Form, rowid_form, table_by_rowid, number_column, bytes_column}
use Rattle.office_tables.specs.Values.{number_in_value}
use Rattle.office_tables.specs.Ranges.{IsOfficeNumber}

abbrev pub create_seals : List ℕ
create_seals = codes "CREATE TABLE seals (receipt INTEGER NOT NULL PRIMARY KEY CHECK (receipt BETWEEN 1 AND 1000000000), bytes BLOB NOT NULL CHECK (length(bytes) BETWEEN 1 AND 32768)) STRICT"

abbrev pub seals : Table
seals = table_by_rowid (codes "seals") (number_column (codes "receipt") ∷ bytes_column (codes "bytes") ∷ []) create_seals

-- inserts the bytes of a tender, or replaces the row that has its key
abbrev pub upsert_seals : List ℕ
upsert_seals = codes "INSERT INTO seals (receipt, bytes) VALUES (?1, ?2) ON CONFLICT (receipt) DO UPDATE SET bytes = ?2"

-- deletes the bytes of a tender
abbrev pub delete_seal : List ℕ
delete_seal = codes "DELETE FROM seals WHERE receipt = ?1"

-- a tender's receipt and its bytes, in the order of the columns
abbrev pub seal_values : SealRow → Row
seal_values x = Int (pos x.receipt) ∷ Blob x.bytes ∷ []

-- the bytes of a tender that a row is read as
abbrev pub seal_read : Row → SealRow
seal_read r = record { receipt = number_in_value (column r 0); bytes = bytes (column r 1) }

-- each field is in its range
abbrev pub SealFits : SealRow → Type 0
SealFits x = IsOfficeNumber x.receipt × IsSealed x.bytes

-- the table, the order of its keys, and how its rows are written and read
abbrev pub seal_form : Form ℕ SealRow
seal_form = rowid_form seals nat_cmp seal_key seal_values seal_read
