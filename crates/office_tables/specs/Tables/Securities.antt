-- The table of tender securities: the texts that create and change it, its columns, and how a row is written and read.
use Rattle.std.specs.Prelude.{ℕ, List, [], ◌∷◌, codes, pos}
use Rattle.std.specs.Ordering.{nat_cmp}
use Rattle.sqlite_value.specs.declared.value.Value.TheVariants.{Int, Text}
use Rattle.sqlite_value.specs.Order.{Row, column, bytes}
use Rattle.sqlite_schema.specs.declared.schema.Table.{Table}
use Rattle.sqlite_schema.specs.declared.schema.Index.{Index}
use Rattle.office_values.specs.Ids.{IsId}
use Rattle.office_base.specs.declared.records.SecurityRow.{SecurityRow}
use Rattle.office_base.specs.Tables.{security_key}
use Rattle.office_tables.specs.Forms.{Form, rowid_form, table_by_rowid, index_on, text_column, number_column}
use Rattle.office_tables.specs.Values.{number_in_value}
use Rattle.office_tables.specs.Words.{security_state_text, security_state_in}
use Rattle.office_tables.specs.Ranges.{IsOfficeNumber, IsSum}

abbrev pub create_securities : List ℕ
create_securities = codes "CREATE TABLE securities (security INTEGER NOT NULL PRIMARY KEY CHECK (security BETWEEN 1 AND 1000000000), tenderer TEXT NOT NULL CHECK (length(tenderer) BETWEEN 1 AND 32), notice TEXT NOT NULL CHECK (length(notice) BETWEEN 1 AND 32), lot TEXT NOT NULL CHECK (length(lot) BETWEEN 1 AND 32), reference TEXT NOT NULL CHECK (length(reference) BETWEEN 1 AND 32), amount INTEGER NOT NULL CHECK (amount BETWEEN 1 AND 1000000000000), state TEXT NOT NULL CHECK (state IN ('held', 'returned', 'forfeited'))) STRICT"

abbrev pub securities : Table
securities =
    table_by_rowid (codes "securities") (number_column (codes "security") ∷ text_column (codes "tenderer") ∷ text_column (codes "notice")
    ∷ text_column (codes "lot") ∷ text_column (codes "reference") ∷ number_column (codes "amount") ∷ text_column (codes "state") ∷ []) create_securities

-- creates the index for look-ups by notice
abbrev pub create_securities_of_notice : List ℕ
create_securities_of_notice = codes "CREATE INDEX securities_of_notice ON securities (notice)"

abbrev pub securities_of_notice : Index
securities_of_notice = index_on (codes "securities_of_notice") (3 ∷ [])

-- inserts a tender security, or replaces the row that has its key
abbrev pub upsert_securities : List ℕ
upsert_securities = codes "INSERT INTO securities (security, tenderer, notice, lot, reference, amount, state) VALUES (?1, ?2, ?3, ?4, ?5, ?6, ?7) ON CONFLICT (security) DO UPDATE SET tenderer = ?2, notice = ?3, lot = ?4, reference = ?5, amount = ?6, state = ?7"

-- the values of a tender security, in the order of the columns
abbrev pub security_values : SecurityRow → Row
security_values x =
    Int (pos x.security) ∷ Text x.tenderer ∷ Text x.notice ∷ Text x.lot ∷ Text x.reference ∷ Int (pos x.amount) ∷ Text (security_state_text x.state) ∷ []

-- the tender security that a row is read as
abbrev pub security_read : Row → SecurityRow
security_read r = record {
  security = number_in_value (column r 0);
  tenderer = bytes (column r 1);
  notice = bytes (column r 2);
  lot = bytes (column r 3);
  reference = bytes (column r 4);
  amount = number_in_value (column r 5);
  state = security_state_in (bytes (column r 6));
}

-- each field is in its range
abbrev pub SecurityFits : SecurityRow → Type 0
SecurityFits x = IsOfficeNumber x.security × IsId x.tenderer × IsId x.notice × IsId x.lot × IsId x.reference × IsSum x.amount

-- the table, the order of its keys, and how its rows are written and read
abbrev pub security_form : Form ℕ SecurityRow
security_form = rowid_form securities nat_cmp security_key security_values security_read
