-- The table of releases: the texts that create and change it, its columns, and how a row is written and read.
use Rattle.std.specs.Prelude.{◌≤◌, ℕ, List, [], ◌∷◌, codes, IsUtf8, pos}
use Rattle.sqlite_value.specs.declared.value.Value.TheVariants.{Int, Text}
use Rattle.sqlite_value.specs.Order.{Row, column, bytes}
use Rattle.sqlite_schema.specs.declared.schema.Table.{Table}
use Rattle.office_values.specs.Ids.{IsId}
use Rattle.office_values.specs.Moments.{last_moment}
use Rattle.office_base.specs.declared.records.ReleaseRow.{ReleaseRow}
use Rattle.office_base.specs.Tables.{release_key, release_cmp}
use Rattle.office_tables.specs.Forms.{Form, indexed_form, table_with, text_column, number_column}
use Rattle.office_tables.specs.Values.{number_in_value, whole}
use Rattle.office_tables.specs.Ranges.{IsWithin}

abbrev pub create_releases : List ℕ
create_releases = codes "CREATE TABLE releases (notice TEXT NOT NULL CHECK (length(notice) BETWEEN 1 AND 32), seq INTEGER NOT NULL CHECK (seq BETWEEN 1 AND 9999), moment INTEGER NOT NULL CHECK (moment BETWEEN 0 AND 4102444799), text TEXT NOT NULL, PRIMARY KEY (notice, seq)) STRICT"

abbrev pub releases : Table
releases =
    table_with (codes "releases") (text_column (codes "notice") ∷ number_column (codes "seq") ∷ number_column (codes "moment") ∷ text_column (codes "text")
    ∷ []) (1 ∷ 2 ∷ []) create_releases

-- inserts a release, or replaces the row that has its key
abbrev pub upsert_releases : List ℕ
upsert_releases = codes "INSERT INTO releases (notice, seq, moment, text) VALUES (?1, ?2, ?3, ?4) ON CONFLICT (notice, seq) DO UPDATE SET moment = ?3, text = ?4"

-- the values of a release, in the order of the columns
abbrev pub release_values : ReleaseRow → Row
release_values x = Text x.notice ∷ Int (pos x.seq) ∷ Int (pos x.moment) ∷ Text x.text ∷ []

-- the release that a row is read as
abbrev pub release_read : Row → ReleaseRow
release_read r = record { notice = bytes (column r 0); seq = number_in_value (column r 1); moment = number_in_value (column r 2); text = bytes (column r 3) }

-- the number of a release as a row of its own, and the number that such a row is read as
abbrev pub number_row : ℕ → Row
number_row n = whole n ∷ []

abbrev pub number_read : Row → ℕ
number_read r = number_in_value (column r 0)

-- each field is in its range
abbrev pub ReleaseFits : ReleaseRow → Type 0
ReleaseFits x = IsId x.notice × IsWithin 1 9999 x.seq × (x.moment ≤ last_moment) × IsUtf8 x.text

-- the table, the order of its keys, and how its rows are written and read
abbrev pub release_form : Form (List ℕ × ℕ) ReleaseRow
release_form = indexed_form releases release_cmp release_key release_values release_read
