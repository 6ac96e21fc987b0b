-- A ledger that is made line by line.
use Rattle.office_sums.proofs.Names.{◌≡◌, List, ◌++◌, map, AllByRecursion, Tables, ledger_row, ledger_of, LineFits, LinesFit, LineRow, LedgerRow}

abbrev AreFit : Tables → List LineRow → Type 0
AreFit t lines = AllByRecursion (λ (row : LineRow). LineFits row.line t) lines

-- these rows and those of the rest of the lines are the ledger, which fits exactly if the rest of the lines do
pub record IsLedgerSoFar (rest : List LineRow) (rows : List LedgerRow) (t : Tables) : Type 0 where
  pub rows_are : rows ++ map (ledger_row t) rest ≡ ledger_of t
  pub fit : AreFit t rest → LinesFit t
  pub each : LinesFit t → AreFit t rest
