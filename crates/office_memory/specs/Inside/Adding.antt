-- Adding up rows: sums of a contract that can't overflow, and the ledger line by line.
use Rattle.std.specs.Prelude.{◌≡◌, ℕ, ◌+◌, ◌*◌, ◌^◌, ◌<◌, List, ◌++◌, map, Option, Some, None}
use Rattle.std.specs.List.{AllByRecursion}
use Rattle.office_base.specs.Tables.{Tables}
use Rattle.office_base.specs.Joined.{ledger_row, ledger_of, LineFits, LinesFit}
use Rattle.office_base.specs.declared.ledger.ContractSums.{ContractSums}
use Rattle.office_base.specs.declared.ledger.LedgerRow.{LedgerRow}
use Rattle.office_base.specs.declared.records.LineRow.{LineRow}

-- adding so many more entries doesn't overflow 128 bits
pub record HasRoom (entries : ℕ) (sums : ContractSums) : Type 0 where
  pub gained : sums.gained + entries * 2 ^ 64 < 2 ^ 128
  pub lost : sums.lost + entries * 2 ^ 64 < 2 ^ 128
  pub paid : sums.paid + entries * 2 ^ 64 < 2 ^ 128

-- the row of a line in the ledger; None if a sum of the line is outside its range
abbrev pub IsLedgerRow : Tables → LineRow → Option LedgerRow → Type 0
IsLedgerRow t row (Some ledger) = (ledger ≡ ledger_row t row) × LineFits row.line t
IsLedgerRow t row None = ¬ (LineFits row.line t)

-- the ledger; None if a sum of a line is outside its range
abbrev pub IsLedger : Tables → Option (List LedgerRow) → Type 0
IsLedger t (Some rows) = (rows ≡ ledger_of t) × LinesFit t
IsLedger t None = ¬ (LinesFit t)

-- these rows and those of the remaining lines are the ledger, and all lines fit exactly if the remaining ones do
pub record IsLedgerTo (t : Tables) (rows : List LedgerRow) (rest : List LineRow) : Type 0 where
  pub rows_are : rows ++ map (ledger_row t) rest ≡ ledger_of t
  pub fit : AllByRecursion (λ (row : LineRow). LineFits row.line t) rest → LinesFit t
  pub unfit : LinesFit t → AllByRecursion (λ (row : LineRow). LineFits row.line t) rest
