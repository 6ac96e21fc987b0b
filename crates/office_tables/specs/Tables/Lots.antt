-- The table of lots: the texts that create and change it, its columns, and how a row is written and read.
use Rattle.std.specs.Prelude.{◌≤◌, ℕ, List, [], ◌∷◌, codes, pos}
use Rattle.sqlite_value.specs.declared.value.Value.TheVariants.{Int, Text}
use Rattle.sqlite_value.specs.Order.{Row, column, bytes}
use Rattle.sqlite_schema.specs.declared.schema.Table.{Table}
use Rattle.sqlite_schema.specs.declared.schema.Index.{Index}
use Rattle.office_values.specs.Ids.{IsId}
use Rattle.office_values.specs.Texts.{IsTextLine}
use Rattle.office_values.specs.Money.{amount_limit}
use Rattle.office_base.specs.declared.records.LotRow.{LotRow}
use Rattle.office_base.specs.Tables.{lot_key, lot_cmp}
use Rattle.office_tables.specs.Forms.{Form, indexed_form, table_with, index_on, text_column, number_column}
use Rattle.office_tables.specs.Values.{number_in_value}
use Rattle.office_tables.specs.Words.{lot_state_text, lot_state_in}
use Rattle.office_tables.specs.ItemTexts.{items_text, items_in_text, AreItems}
use Rattle.office_tables.specs.Ranges.{IsSum}

abbrev pub create_lots : List ℕ
create_lots = codes "CREATE TABLE lots (notice TEXT NOT NULL CHECK (length(notice) BETWEEN 1 AND 32), lot TEXT NOT NULL CHECK (length(lot) BETWEEN 1 AND 32), title TEXT NOT NULL CHECK (length(title) BETWEEN 1 AND 200), line TEXT NOT NULL CHECK (length(line) BETWEEN 1 AND 32), estimate INTEGER NOT NULL CHECK (estimate BETWEEN 1 AND 1000000000000), security INTEGER NOT NULL CHECK (security BETWEEN 0 AND 1000000000000), items TEXT NOT NULL, state TEXT NOT NULL CHECK (state IN ('undecided', 'awarded', 'contracted', 'unsuccessful', 'cancelled')), reserved INTEGER NOT NULL CHECK (reserved BETWEEN 0 AND 1000000000000), PRIMARY KEY (notice, lot)) STRICT"

abbrev pub lots : Table
lots =
    table_with (codes "lots") (text_column (codes "notice") ∷ text_column (codes "lot") ∷ text_column (codes "title") ∷ text_column (codes "line")
    ∷ number_column (codes "estimate") ∷ number_column (codes "security") ∷ text_column (codes "items") ∷ text_column (codes "state")
    ∷ number_column (codes "reserved") ∷ []) (1 ∷ 2 ∷ []) create_lots

-- creates the index for look-ups by budget line
abbrev pub create_lots_of_line : List ℕ
create_lots_of_line = codes "CREATE INDEX lots_of_line ON lots (line)"

abbrev pub lots_of_line : Index
lots_of_line = index_on (codes "lots_of_line") (4 ∷ [])

-- inserts a lot, or replaces the row that has its key
abbrev pub upsert_lots : List ℕ
upsert_lots = codes "INSERT INTO lots (notice, lot, title, line, estimate, security, items, state, reserved) VALUES (?1, ?2, ?3, ?4, ?5, ?6, ?7, ?8, ?9) ON CONFLICT (notice, lot) DO UPDATE SET title = ?3, line = ?4, estimate = ?5, security = ?6, items = ?7, state = ?8, reserved = ?9"

-- the values of a lot, in the order of the columns
abbrev pub lot_values : LotRow → Row
lot_values x =
    Text x.notice ∷ Text x.lot ∷ Text x.title ∷ Text x.line ∷ Int (pos x.estimate) ∷ Int (pos x.security) ∷ Text (items_text x.items)
    ∷ Text (lot_state_text x.state) ∷ Int (pos x.reserved) ∷ []

-- the lot that a row is read as
abbrev pub lot_read : Row → LotRow
lot_read r = record {
  notice = bytes (column r 0);
  lot = bytes (column r 1);
  title = bytes (column r 2);
  line = bytes (column r 3);
  estimate = number_in_value (column r 4);
  security = number_in_value (column r 5);
  items = items_in_text (bytes (column r 6));
  state = lot_state_in (bytes (column r 7));
  reserved = number_in_value (column r 8);
}

-- each field is in its range, but for the items
abbrev pub LotFits : LotRow → Type 0
LotFits x =
    IsId x.notice × IsId x.lot × IsTextLine x.title × IsId x.line × IsSum x.estimate × (x.security ≤ amount_limit) × (x.reserved ≤ amount_limit)

-- a lot with its items
abbrev pub IsLot : LotRow → Type 0
IsLot x = LotFits x × AreItems x.items

-- the table, the order of its keys, and how its rows are written and read
abbrev pub lot_form : Form (List ℕ × List ℕ) LotRow
lot_form = indexed_form lots lot_cmp lot_key lot_values lot_read
