-- The table of notices: the texts that create and change it, its columns, and how a row is written and read.
use Rattle.std.specs.Prelude.{◌≤◌, ℕ, List, [], ◌∷◌, codes, IfSome, pos}
use Rattle.sqlite_value.specs.declared.value.Value.TheVariants.{Int, Text}
use Rattle.sqlite_value.specs.Order.{Row, column, bytes}
use Rattle.sqlite_schema.specs.declared.schema.Table.{Table}
use Rattle.office_values.specs.Ids.{IsId, id_cmp}
use Rattle.office_values.specs.Texts.{IsTextLine}
use Rattle.office_values.specs.Moments.{last_moment}
use Rattle.office_values.specs.Money.{amount_limit}
use Rattle.office_base.specs.declared.records.NoticeRow.{NoticeRow}
use Rattle.office_base.specs.Tables.{notice_key}
use Rattle.office_tables.specs.Forms.{Form, indexed_form, table_with, text_column, number_column, perhaps_number_column}
use Rattle.office_tables.specs.Values.{number_in_value, or_null, perhaps_in}
use Rattle.office_tables.specs.Words.{notice_state_text, notice_state_in}
use Rattle.office_tables.specs.Ranges.{IsWithin}

abbrev pub create_notices : List ℕ
create_notices = codes "CREATE TABLE notices_2 (notice TEXT NOT NULL PRIMARY KEY CHECK (length(notice) BETWEEN 1 AND 32), title TEXT NOT NULL CHECK (length(title) BETWEEN 1 AND 200), published INTEGER NOT NULL CHECK (published BETWEEN 0 AND 4102444799), deadline INTEGER NOT NULL CHECK (deadline BETWEEN 0 AND 4102444799), validity INTEGER NOT NULL CHECK (validity BETWEEN 1 AND 365), standstill INTEGER NOT NULL CHECK (standstill BETWEEN 0 AND 90), weight INTEGER NOT NULL CHECK (weight BETWEEN 0 AND 100), state TEXT NOT NULL CHECK (state IN ('receiving', 'opened', 'cancelled')), opened INTEGER CHECK (opened BETWEEN 0 AND 4102444799), amendments INTEGER NOT NULL CHECK (amendments BETWEEN 0 AND 50), releases INTEGER NOT NULL CHECK (releases BETWEEN 0 AND 9999), performance INTEGER NOT NULL CHECK (performance BETWEEN 0 AND 1000000000000)) STRICT"

abbrev pub notices : Table
notices =
    table_with (codes "notices_2") (text_column (codes "notice") ∷ text_column (codes "title") ∷ number_column (codes "published")
    ∷ number_column (codes "deadline") ∷ number_column (codes "validity") ∷ number_column (codes "standstill") ∷ number_column (codes "weight")
    ∷ text_column (codes "state") ∷ perhaps_number_column (codes "opened") ∷ number_column (codes "amendments") ∷ number_column (codes "releases")
    ∷ number_column (codes "performance") ∷ []) (1 ∷ []) create_notices

-- inserts a notice, or replaces the row that has its key
abbrev pub upsert_notices : List ℕ
upsert_notices = codes "INSERT INTO notices_2 (notice, title, published, deadline, validity, standstill, weight, state, opened, amendments, releases, performance) VALUES (?1, ?2, ?3, ?4, ?5, ?6, ?7, ?8, ?9, ?10, ?11, ?12) ON CONFLICT (notice) DO UPDATE SET title = ?2, published = ?3, deadline = ?4, validity = ?5, standstill = ?6, weight = ?7, state = ?8, opened = ?9, amendments = ?10, releases = ?11, performance = ?12"

-- the values of a notice, in the order of the columns
abbrev pub notice_values : NoticeRow → Row
notice_values x =
    Text x.notice ∷ Text x.title ∷ Int (pos x.published) ∷ Int (pos x.deadline) ∷ Int (pos x.validity) ∷ Int (pos x.standstill) ∷ Int (pos x.weight)
    ∷ Text (notice_state_text x.state) ∷ or_null x.opened ∷ Int (pos x.amendments) ∷ Int (pos x.releases) ∷ Int (pos x.performance) ∷ []

-- the notice that a row is read as
abbrev pub notice_read : Row → NoticeRow
notice_read r = record {
  notice = bytes (column r 0);
  title = bytes (column r 1);
  published = number_in_value (column r 2);
  deadline = number_in_value (column r 3);
  validity = number_in_value (column r 4);
  standstill = number_in_value (column r 5);
  weight = number_in_value (column r 6);
  state = notice_state_in (bytes (column r 7));
  opened = perhaps_in (column r 8);
  amendments = number_in_value (column r 9);
  releases = number_in_value (column r 10);
  performance = number_in_value (column r 11);
}

-- each field is in its range
abbrev pub NoticeFits : NoticeRow → Type 0
NoticeFits x =
    IsId x.notice × IsTextLine x.title × (x.published ≤ last_moment) × (x.deadline ≤ last_moment) × IsWithin 1 365 x.validity × (x.standstill ≤ 90)
    × (x.weight ≤ 100) × IfSome x.opened (λ moment. moment ≤ last_moment) × (x.amendments ≤ 50) × (x.releases ≤ 9999)
    × (x.performance ≤ amount_limit)

-- the table, the order of its keys, and how its rows are written and read
abbrev pub notice_form : Form (List ℕ) NoticeRow
notice_form = indexed_form notices id_cmp notice_key notice_values notice_read

-- The table of notices in version 1, which had no performance securities. This program keeps the table, without rows.
abbrev pub create_former_notices : List ℕ
create_former_notices = codes "CREATE TABLE notices (notice TEXT NOT NULL PRIMARY KEY CHECK (length(notice) BETWEEN 1 AND 32), title TEXT NOT NULL CHECK (length(title) BETWEEN 1 AND 200), published INTEGER NOT NULL CHECK (published BETWEEN 0 AND 4102444799), deadline INTEGER NOT NULL CHECK (deadline BETWEEN 0 AND 4102444799), validity INTEGER NOT NULL CHECK (validity BETWEEN 1 AND 365), standstill INTEGER NOT NULL CHECK (standstill BETWEEN 0 AND 90), weight INTEGER NOT NULL CHECK (weight BETWEEN 0 AND 100), state TEXT NOT NULL CHECK (state IN ('receiving', 'opened', 'cancelled')), opened INTEGER CHECK (opened BETWEEN 0 AND 4102444799), amendments INTEGER NOT NULL CHECK (amendments BETWEEN 0 AND 50), releases INTEGER NOT NULL CHECK (releases BETWEEN 0 AND 9999)) STRICT"

abbrev pub former_notices : Table
former_notices =
    table_with (codes "notices") (text_column (codes "notice") ∷ text_column (codes "title") ∷ number_column (codes "published")
    ∷ number_column (codes "deadline") ∷ number_column (codes "validity") ∷ number_column (codes "standstill") ∷ number_column (codes "weight")
    ∷ text_column (codes "state") ∷ perhaps_number_column (codes "opened") ∷ number_column (codes "amendments") ∷ number_column (codes "releases") ∷ []) (1
    ∷ []) create_former_notices

-- the values of a notice in that table, in the order of its columns
abbrev pub former_values : NoticeRow → Row
former_values x =
    Text x.notice ∷ Text x.title ∷ Int (pos x.published) ∷ Int (pos x.deadline) ∷ Int (pos x.validity) ∷ Int (pos x.standstill) ∷ Int (pos x.weight)
    ∷ Text (notice_state_text x.state) ∷ or_null x.opened ∷ Int (pos x.amendments) ∷ Int (pos x.releases) ∷ []

abbrev pub former_read : Row → NoticeRow
former_read r = record (notice_read r) { performance = 0 }

-- a notice of version 1 as this program reads it: it asks for no performance security
abbrev pub asks_nothing : NoticeRow → NoticeRow
asks_nothing x = record x { performance = 0 }

abbrev pub former_form : Form (List ℕ) NoticeRow
former_form = indexed_form former_notices id_cmp notice_key former_values former_read
