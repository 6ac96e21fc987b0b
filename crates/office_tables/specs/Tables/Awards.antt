-- The table of awards: the texts that create and change it, its columns, and how a row is written and read.
use Rattle.std.specs.Prelude.{◌≤◌, ℕ, List, [], ◌∷◌, codes, pos}
use Rattle.std.specs.Ordering.{nat_cmp}
use Rattle.sqlite_value.specs.declared.value.Value.TheVariants.{Int, Text}
use Rattle.sqlite_value.specs.Order.{Row, column, bytes}
use Rattle.sqlite_schema.specs.declared.schema.Table.{Table}
use Rattle.sqlite_schema.specs.declared.schema.Index.{Index}
use Rattle.office_values.specs.Ids.{IsId}
use Rattle.office_values.specs.Moments.{last_moment}
use Rattle.office_values.specs.Money.{amount_limit}
use Rattle.office_base.specs.declared.records.AwardRow.{AwardRow}
use Rattle.office_base.specs.Tables.{award_key}
use Rattle.office_tables.specs.Forms.{Form, rowid_form, table_by_rowid, index_on, text_column, number_column}
use Rattle.office_tables.specs.Values.{number_in_value}
use Rattle.office_tables.specs.Words.{award_state_text, award_state_in}
use Rattle.office_tables.specs.Ranges.{IsOfficeNumber}

abbrev pub create_awards : List ℕ
create_awards = codes "CREATE TABLE awards (award INTEGER NOT NULL PRIMARY KEY CHECK (award BETWEEN 1 AND 1000000000), notice TEXT NOT NULL CHECK (length(notice) BETWEEN 1 AND 32), lot TEXT NOT NULL CHECK (length(lot) BETWEEN 1 AND 32), receipt INTEGER NOT NULL CHECK (receipt BETWEEN 1 AND 1000000000), price INTEGER NOT NULL CHECK (price BETWEEN 0 AND 1000000000000), moment INTEGER NOT NULL CHECK (moment BETWEEN 0 AND 4102444799), state TEXT NOT NULL CHECK (state IN ('active', 'failed', 'cancelled', 'signed'))) STRICT"

abbrev pub awards : Table
awards =
    table_by_rowid (codes "awards") (number_column (codes "award") ∷ text_column (codes "notice") ∷ text_column (codes "lot")
    ∷ number_column (codes "receipt") ∷ number_column (codes "price") ∷ number_column (codes "moment") ∷ text_column (codes "state") ∷ []) create_awards

-- creates the index for look-ups by notice
abbrev pub create_awards_of_notice : List ℕ
create_awards_of_notice = codes "CREATE INDEX awards_of_notice ON awards (notice)"

abbrev pub awards_of_notice : Index
awards_of_notice = index_on (codes "awards_of_notice") (2 ∷ [])

-- inserts an award, or replaces the row that has its key
abbrev pub upsert_awards : List ℕ
upsert_awards = codes "INSERT INTO awards (award, notice, lot, receipt, price, moment, state) VALUES (?1, ?2, ?3, ?4, ?5, ?6, ?7) ON CONFLICT (award) DO UPDATE SET notice = ?2, lot = ?3, receipt = ?4, price = ?5, moment = ?6, state = ?7"

-- the values of an award, in the order of the columns
abbrev pub award_values : AwardRow → Row
award_values x =
    Int (pos x.award) ∷ Text x.notice ∷ Text x.lot ∷ Int (pos x.receipt) ∷ Int (pos x.price) ∷ Int (pos x.moment) ∷ Text (award_state_text x.state) ∷ []

-- the award that a row is read as
abbrev pub award_read : Row → AwardRow
award_read r = record {
  award = number_in_value (column r 0);
  notice = bytes (column r 1);
  lot = bytes (column r 2);
  receipt = number_in_value (column r 3);
  price = number_in_value (column r 4);
  moment = number_in_value (column r 5);
  state = award_state_in (bytes (column r 6));
}

-- each field is in its range
abbrev pub AwardFits : AwardRow → Type 0
AwardFits x = IsOfficeNumber x.award × IsId x.notice × IsId x.lot × IsOfficeNumber x.receipt × (x.price ≤ amount_limit) × (x.moment ≤ last_moment)

-- the table, the order of its keys, and how its rows are written and read
abbrev pub award_form : Form ℕ AwardRow
award_form = rowid_form awards nat_cmp award_key award_values award_read
