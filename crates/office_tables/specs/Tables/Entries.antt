-- The table of the entries of contracts: the texts that create and change it, its columns, and how a row is written and read.
use Rattle.std.specs.Prelude.{◌≤◌, ℕ, List, [], ◌∷◌, codes, IfSome, pos}
use Rattle.sqlite_value.specs.declared.value.Value.TheVariants.{Int, Text}
use Rattle.sqlite_value.specs.Order.{Row, column, bytes}
use Rattle.sqlite_schema.specs.declared.schema.Table.{Table}
use Rattle.office_values.specs.Ids.{IsId}
use Rattle.office_values.specs.Texts.{IsTextLine}
use Rattle.office_values.specs.Moments.{last_moment}
use Rattle.office_base.specs.declared.records.EntryRow.{EntryRow}
use Rattle.office_base.specs.Tables.{entry_key, entry_cmp}
use Rattle.office_tables.specs.Forms.{Form, indexed_form, table_with, text_column, number_column, perhaps_text_column}
use Rattle.office_tables.specs.Values.{number_in_value, text_or_null, perhaps_text_in}
use Rattle.office_tables.specs.Words.{entry_kind_text, entry_kind_in}
use Rattle.office_tables.specs.Ranges.{IsOfficeNumber, IsSum}

abbrev pub create_entries : List ℕ
create_entries = codes "CREATE TABLE entries (contract INTEGER NOT NULL CHECK (contract BETWEEN 1 AND 1000000000), entry TEXT NOT NULL CHECK (length(entry) BETWEEN 1 AND 32), kind TEXT NOT NULL CHECK (kind IN ('raise', 'cut', 'payment')), amount INTEGER NOT NULL CHECK (amount BETWEEN 1 AND 1000000000000), moment INTEGER NOT NULL CHECK (moment BETWEEN 0 AND 4102444799), rationale TEXT CHECK (length(rationale) BETWEEN 1 AND 200), PRIMARY KEY (contract, entry)) STRICT"

abbrev pub entries : Table
entries =
    table_with (codes "entries") (number_column (codes "contract") ∷ text_column (codes "entry") ∷ text_column (codes "kind")
    ∷ number_column (codes "amount") ∷ number_column (codes "moment") ∷ perhaps_text_column (codes "rationale") ∷ []) (1 ∷ 2 ∷ []) create_entries

-- inserts an entry of a contract, or replaces the row that has its key
abbrev pub upsert_entries : List ℕ
upsert_entries = codes "INSERT INTO entries (contract, entry, kind, amount, moment, rationale) VALUES (?1, ?2, ?3, ?4, ?5, ?6) ON CONFLICT (contract, entry) DO UPDATE SET kind = ?3, amount = ?4, moment = ?5, rationale = ?6"

-- the values of an entry of a contract, in the order of the columns
abbrev pub entry_values : EntryRow → Row
entry_values x =
    Int (pos x.contract) ∷ Text x.entry ∷ Text (entry_kind_text x.kind) ∷ Int (pos x.amount) ∷ Int (pos x.moment) ∷ text_or_null x.rationale ∷ []

-- the entry of a contract that a row is read as
abbrev pub entry_read : Row → EntryRow
entry_read r = record {
  contract = number_in_value (column r 0);
  entry = bytes (column r 1);
  kind = entry_kind_in (bytes (column r 2));
  amount = number_in_value (column r 3);
  moment = number_in_value (column r 4);
  rationale = perhaps_text_in (column r 5);
}

-- each field is in its range
abbrev pub EntryFits : EntryRow → Type 0
EntryFits x = IsOfficeNumber x.contract × IsId x.entry × IsSum x.amount × (x.moment ≤ last_moment) × IfSome x.rationale IsTextLine

-- the table, the order of its keys, and how its rows are written and read
abbrev pub entry_form : Form (ℕ × List ℕ) EntryRow
entry_form = indexed_form entries entry_cmp entry_key entry_values entry_read
