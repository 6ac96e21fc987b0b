-- The table of tenders, without their bytes: the texts that create and change it, its columns, and how a row is written and read.
use Rattle.std.specs.Prelude.{◌≡◌, ◌≤◌, ℕ, List, [], ◌∷◌, codes, IfSome, length, pos, option_map}
use Rattle.std.specs.Ordering.{nat_cmp}
use Rattle.sqlite_value.specs.declared.value.Value.TheVariants.{Int, Text, Blob}
use Rattle.sqlite_value.specs.Order.{Row, column, bytes}
use Rattle.sqlite_schema.specs.declared.schema.Table.{Table}
use Rattle.sqlite_schema.specs.declared.schema.Index.{Index}
use Rattle.office_values.specs.Ids.{IsId}
use Rattle.office_values.specs.Moments.{last_moment}
use Rattle.office_base.specs.declared.records.EnvelopeRow.{EnvelopeRow}
use Rattle.office_base.specs.Tables.{envelope_key}
use Rattle.office_tables.specs.Forms.{Form, rowid_form, table_by_rowid, index_on, text_column, number_column, bytes_column, perhaps_text_column, perhaps_number_column}
use Rattle.office_tables.specs.Values.{number_in_value, or_null, perhaps_in, text_or_null, as_number, truth_in, perhaps_truth_in}
use Rattle.office_tables.specs.Words.{envelope_state_text, envelope_state_in}
use Rattle.office_tables.specs.Readings.{reading_word, stated_price, corrected_price, count_of_corrections, reading_in}
use Rattle.office_tables.specs.Ranges.{IsWithin, IsOfficeNumber, ReadingFits}

abbrev pub create_envelopes : List ℕ
create_envelopes = codes "CREATE TABLE envelopes (receipt INTEGER NOT NULL PRIMARY KEY CHECK (receipt BETWEEN 1 AND 1000000000), notice TEXT NOT NULL CHECK (length(notice) BETWEEN 1 AND 32), lot TEXT NOT NULL CHECK (length(lot) BETWEEN 1 AND 32), tenderer TEXT NOT NULL CHECK (length(tenderer) BETWEEN 1 AND 32), moment INTEGER NOT NULL CHECK (moment BETWEEN 0 AND 4102444799), length INTEGER NOT NULL CHECK (length BETWEEN 1 AND 32768), digest BLOB NOT NULL CHECK (length(digest) = 32), security INTEGER CHECK (security BETWEEN 1 AND 1000000000), state TEXT NOT NULL CHECK (state IN ('sealed', 'withdrawn', 'returned', 'opened')), reading TEXT CHECK (reading IN ('unreadable', 'nonconforming', 'priced')), stated INTEGER CHECK (stated BETWEEN 0 AND 1000000000000000), corrected INTEGER CHECK (corrected BETWEEN 0 AND 1000000000000), corrections INTEGER CHECK (corrections BETWEEN 0 AND 9223372036854775807), responsive INTEGER CHECK (responsive BETWEEN 0 AND 1), quality INTEGER CHECK (quality BETWEEN 0 AND 100), failed INTEGER NOT NULL CHECK (failed BETWEEN 0 AND 1)) STRICT"

abbrev pub envelopes : Table
envelopes =
    table_by_rowid (codes "envelopes") (number_column (codes "receipt") ∷ text_column (codes "notice") ∷ text_column (codes "lot")
    ∷ text_column (codes "tenderer") ∷ number_column (codes "moment") ∷ number_column (codes "length") ∷ bytes_column (codes "digest")
    ∷ perhaps_number_column (codes "security") ∷ text_column (codes "state") ∷ perhaps_text_column (codes "reading") ∷ perhaps_number_column (codes "stated")
    ∷ perhaps_number_column (codes "corrected") ∷ perhaps_number_column (codes "corrections") ∷ perhaps_number_column (codes "responsive")
    ∷ perhaps_number_column (codes "quality") ∷ number_column (codes "failed") ∷ []) create_envelopes

-- creates the index for look-ups by notice, by lot, and by the tenderer in a lot
abbrev pub create_envelopes_of_notice : List ℕ
create_envelopes_of_notice = codes "CREATE INDEX envelopes_of_notice ON envelopes (notice, lot, tenderer)"

abbrev pub envelopes_of_notice : Index
envelopes_of_notice = index_on (codes "envelopes_of_notice") (2 ∷ 3 ∷ 4 ∷ [])

-- inserts a tender, or replaces the row that has its key
abbrev pub upsert_envelopes : List ℕ
upsert_envelopes = codes "INSERT INTO envelopes (receipt, notice, lot, tenderer, moment, length, digest, security, state, reading, stated, corrected, corrections, responsive, quality, failed) VALUES (?1, ?2, ?3, ?4, ?5, ?6, ?7, ?8, ?9, ?10, ?11, ?12, ?13, ?14, ?15, ?16) ON CONFLICT (receipt) DO UPDATE SET notice = ?2, lot = ?3, tenderer = ?4, moment = ?5, length = ?6, digest = ?7, security = ?8, state = ?9, reading = ?10, stated = ?11, corrected = ?12, corrections = ?13, responsive = ?14, quality = ?15, failed = ?16"

-- the values of a tender, in the order of the columns
abbrev pub envelope_values : EnvelopeRow → Row
envelope_values x =
    Int (pos x.receipt) ∷ Text x.notice ∷ Text x.lot ∷ Text x.tenderer ∷ Int (pos x.moment) ∷ Int (pos x.length) ∷ Blob x.digest ∷ or_null x.security
    ∷ Text (envelope_state_text x.state) ∷ text_or_null (option_map reading_word x.reading) ∷ or_null (stated_price x.reading) ∷ or_null (corrected_price x.reading)
    ∷ or_null (count_of_corrections x.reading) ∷ or_null (option_map as_number x.responsive) ∷ or_null x.quality ∷ Int (pos (as_number x.failed)) ∷ []

-- the tender that a row is read as
abbrev pub envelope_read : Row → EnvelopeRow
envelope_read r = record {
  receipt = number_in_value (column r 0);
  notice = bytes (column r 1);
  lot = bytes (column r 2);
  tenderer = bytes (column r 3);
  moment = number_in_value (column r 4);
  length = number_in_value (column r 5);
  digest = bytes (column r 6);
  security = perhaps_in (column r 7);
  state = envelope_state_in (bytes (column r 8));
  reading = reading_in (column r 9) (column r 10) (column r 11) (column r 12);
  responsive = perhaps_truth_in (column r 13);
  quality = perhaps_in (column r 14);
  failed = truth_in (column r 15);
}

-- each field is in its range
abbrev pub EnvelopeFits : EnvelopeRow → Type 0
EnvelopeFits x =
    IsOfficeNumber x.receipt × IsId x.notice × IsId x.lot × IsId x.tenderer × (x.moment ≤ last_moment) × IsWithin 1 32768 x.length × (length x.digest ≡ 32)
    × IfSome x.security IsOfficeNumber × ReadingFits x.reading × IfSome x.quality (λ points. points ≤ 100)

-- the table, the order of its keys, and how its rows are written and read
abbrev pub envelope_form : Form ℕ EnvelopeRow
envelope_form = rowid_form envelopes nat_cmp envelope_key envelope_values envelope_read
