-- The table of tenderers: the texts that create and change it, its columns, and how a row is written and read.
use Rattle.std.specs.Prelude.{◌≡◌, ℕ, List, [], ◌∷◌, codes, length}
use Rattle.sqlite_value.specs.declared.value.Value.TheVariants.{Text, Blob}
use Rattle.sqlite_value.specs.Order.{Row, column, bytes}
use Rattle.sqlite_schema.specs.declared.schema.Table.{Table}
use Rattle.office_values.specs.Ids.{IsId, id_cmp}
use Rattle.office_values.specs.Texts.{IsTextLine}
use Rattle.office_base.specs.declared.records.TendererRow.{TendererRow}
use Rattle.office_base.specs.Tables.{tenderer_key}
use Rattle.office_tables.specs.Forms.{Form, indexed_form, table_with, text_column, bytes_column}

abbrev pub create_tenderers : List ℕ
create_tenderers = codes "CREATE TABLE tenderers (tenderer TEXT NOT NULL PRIMARY KEY CHECK (length(tenderer) BETWEEN 1 AND 32), name TEXT NOT NULL CHECK (length(name) BETWEEN 1 AND 200), address TEXT NOT NULL CHECK (length(address) BETWEEN 1 AND 200), key BLOB NOT NULL CHECK (length(key) = 32)) STRICT"

abbrev pub tenderers : Table
tenderers =
    table_with (codes "tenderers") (text_column (codes "tenderer") ∷ text_column (codes "name") ∷ text_column (codes "address") ∷ bytes_column (codes "key")
    ∷ []) (1 ∷ []) create_tenderers

-- inserts a tenderer, or replaces the row that has its key
abbrev pub upsert_tenderers : List ℕ
upsert_tenderers = codes "INSERT INTO tenderers (tenderer, name, address, key) VALUES (?1, ?2, ?3, ?4) ON CONFLICT (tenderer) DO UPDATE SET name = ?2, address = ?3, key = ?4"

-- the values of a tenderer, in the order of the columns
abbrev pub tenderer_values : TendererRow → Row
tenderer_values x = Text x.tenderer ∷ Text x.name ∷ Text x.address ∷ Blob x.key ∷ []

-- the tenderer that a row is read as
abbrev pub tenderer_read : Row → TendererRow
tenderer_read r = record { tenderer = bytes (column r 0); name = bytes (column r 1); address = bytes (column r 2); key = bytes (column r 3) }

-- each field is in its range
abbrev pub TendererFits : TendererRow → Type 0
TendererFits x = IsId x.tenderer × IsTextLine x.name × IsTextLine x.address × (length x.key ≡ 32)

-- the table, the order of its keys, and how its rows are written and read
abbrev pub tenderer_form : Form (List ℕ) TendererRow
tenderer_form = indexed_form tenderers id_cmp tenderer_key tenderer_values tenderer_read
