-- The table of performance securities: the texts that create and change it, its columns, and how a row is written and read.
use Rattle.std.specs.Prelude.{ℕ, List, [], ◌∷◌, codes, pos}
use Rattle.std.specs.Ordering.{nat_cmp}
use Rattle.sqlite_value.specs.declared.value.Value.TheVariants.{Int, Text}
use Rattle.sqlite_value.specs.Order.{Row, column, bytes}
use Rattle.sqlite_schema.specs.declared.schema.Table.{Table}
use Rattle.office_values.specs.Ids.{IsId}
use Rattle.office_base.specs.declared.records.PerformanceRow.{PerformanceRow}
use Rattle.office_base.specs.Tables.{performance_key}
use Rattle.office_tables.specs.Forms.{Form, rowid_form, table_by_rowid, text_column, number_column}
use Rattle.office_tables.specs.Values.{number_in_value}
use Rattle.office_tables.specs.Words.{security_state_text, security_state_in}
use Rattle.office_tables.specs.Ranges.{IsOfficeNumber, IsSum}

abbrev pub create_performance : List ℕ
create_performance = codes "CREATE TABLE performance (contract INTEGER NOT NULL PRIMARY KEY CHECK (contract BETWEEN 1 AND 1000000000), reference TEXT NOT NULL CHECK (length(reference) BETWEEN 1 AND 32), amount INTEGER NOT NULL CHECK (amount BETWEEN 1 AND 1000000000000), state TEXT NOT NULL CHECK (state IN ('held', 'returned', 'forfeited'))) STRICT"

abbrev pub performance : Table
performance =
    table_by_rowid (codes "performance") (number_column (codes "contract") ∷ text_column (codes "reference") ∷ number_column (codes "amount")
    ∷ text_column (codes "state") ∷ []) create_performance

-- inserts a performance security, or replaces the row that has its key
abbrev pub upsert_performance : List ℕ
upsert_performance = codes "INSERT INTO performance (contract, reference, amount, state) VALUES (?1, ?2, ?3, ?4) ON CONFLICT (contract) DO UPDATE SET reference = ?2, amount = ?3, state = ?4"

-- the values of a performance security, in the order of the columns
abbrev pub performance_values : PerformanceRow → Row
performance_values x = Int (pos x.contract) ∷ Text x.reference ∷ Int (pos x.amount) ∷ Text (security_state_text x.state) ∷ []

-- the performance security that a row is read as
abbrev pub performance_read : Row → PerformanceRow
performance_read r = record {
  contract = number_in_value (column r 0);
  reference = bytes (column r 1);
  amount = number_in_value (column r 2);
  state = security_state_in (bytes (column r 3));
}

-- each field is in its range
abbrev pub PerformanceFits : PerformanceRow → Type 0
PerformanceFits x = IsOfficeNumber x.contract × IsId x.reference × IsSum x.amount

-- the table, the order of its keys, and how its rows are written and read
abbrev pub performance_form : Form ℕ PerformanceRow
performance_form = rowid_form performance nat_cmp performance_key performance_values performance_read
