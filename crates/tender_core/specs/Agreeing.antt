-- A decision depends only on the budget lines that its command names: lists of lines that agree on these give the same decision. So a caller may load these
-- lines instead of all lines of the office.
use Rattle.std.specs.Prelude.{◌≡◌, ℕ, List, filter, option_map}
use Rattle.std.specs.List.{AllByRecursion}
use Rattle.office_commands.specs.declared.budget.BudgetRow.{BudgetRow}
use Rattle.office_commands.specs.declared.lot.NewLot.{NewLot}
use Rattle.office_commands.specs.declared.notice.NewNotice.{NewNotice}
use Rattle.office_base.specs.Tables.{Tables, find_line, line_at}
use Rattle.office_base.specs.Standings.{columns_at, columns_of_row, standings}
use Rattle.office_base.specs.declared.standing.Standing.{Standing}
use Rattle.office_base.specs.declared.records.LineRow.{LineRow}
use Rattle.office_base.specs.declared.records.LotRow.{LotRow}
use Rattle.tender_core.specs.Rules.Import.{import_lacks, import_tests, import_puts}
use Rattle.tender_core.specs.Rules.Publish.{publish_tests, publish_puts}
use Rattle.tender_core.specs.Rules.Cancel.{is_open_lot, cancel_lacks, cancel_puts}
use Rattle.tender_core.specs.declared.cancel.CancelRows.{CancelRows}
use Rattle.tender_core.specs.declared.import.ImportRows.{ImportRows}
use Rattle.tender_core.specs.declared.publish.PublishRows.{PublishRows}

-- two lists of lines have the same columns at each line that the rows of a file name
abbrev pub AgreeOnRows : List Standing → List Standing → List BudgetRow → Type 0
AgreeOnRows m n rows = AllByRecursion (λ (row : BudgetRow). columns_at m row.line ≡ columns_at n row.line) rows

-- two lists of lines have the same row at the line of each lot of a new notice
abbrev pub AgreeOnNewLots : List LineRow → List LineRow → List NewLot → Type 0
AgreeOnNewLots m n lots = AllByRecursion (λ (lot : NewLot). find_line m lot.line ≡ find_line n lot.line) lots

-- two lists of lines have the same row at the line of each of these lots
abbrev pub AgreeOnLots : List LineRow → List LineRow → List LotRow → Type 0
AgreeOnLots m n lots = AllByRecursion (λ (l : LotRow). find_line m l.line ≡ find_line n l.line) lots

-- the rows that an import reads, with other lines
abbrev pub import_on : List Standing → ImportRows → ImportRows
import_on lines rows = record rows { file = record { lines = lines; rows = rows.file.rows } }

-- the rows that a publication reads, with other lines
abbrev pub publish_on : List LineRow → PublishRows → PublishRows
publish_on lines rows = record rows { lines = lines }

-- the rows that a cancellation reads, with other lines
abbrev pub cancel_on : List LineRow → CancelRows → CancelRows
cancel_on lines rows = record rows { lines = lines }

-- an import depends only on the columns of the lines that its rows name
pub record ImportsAgree : Type 0 where
  pub tests : (m n : List Standing) (rows : ImportRows) → AgreeOnRows m n rows.file.rows → import_tests (import_on m rows) ≡ import_tests (import_on n rows)
  pub puts : (m n : List Standing) (rows : ImportRows) (t : ℕ) (batch : List ℕ) → AgreeOnRows m n rows.file.rows
      → import_puts (import_on m rows) t batch ≡ import_puts (import_on n rows) t batch
  pub lacks : (m n : List Standing) (rows : ImportRows) → AgreeOnRows m n rows.file.rows → import_lacks (import_on m rows) ≡ import_lacks (import_on n rows)
  -- the columns of a line before the file are those of its row in the office
  pub columns : (s : Tables) (line : List ℕ) → columns_at (standings s) line ≡ option_map columns_of_row (line_at line s)

-- a publication depends only on the lines that its lots name
pub record PublishesAgree : Type 0 where
  pub tests : (m n : List LineRow) (rows : PublishRows) (t : ℕ) (content : NewNotice) → AgreeOnNewLots m n content.lots
      → publish_tests (publish_on m rows) t content ≡ publish_tests (publish_on n rows) t content
  pub puts : (m n : List LineRow) (rows : PublishRows) (t : ℕ) (notice : List ℕ) (content : NewNotice) → AgreeOnNewLots m n content.lots
      → publish_puts (publish_on m rows) t notice content ≡ publish_puts (publish_on n rows) t notice content

-- a cancellation depends only on the lines of the lots that are still open
pub record CancelsAgree : Type 0 where
  pub lacks : (m n : List LineRow) (rows : CancelRows) → AgreeOnLots m n (filter is_open_lot rows.lots)
      → cancel_lacks (cancel_on m rows) ≡ cancel_lacks (cancel_on n rows)
  pub puts : (m n : List LineRow) (rows : CancelRows) (t : ℕ) → AgreeOnLots m n (filter is_open_lot rows.lots)
      → cancel_puts (cancel_on m rows) t ≡ cancel_puts (cancel_on n rows) t
