-- The rows of a tree that hold a table of records show these records.
use Rattle.std.specs.Prelude.{List}
use Rattle.std.specs.declared.cmp.Ordering.{Ordering}
use Rattle.std.specs.Ordering.{nat_cmp}
use Rattle.sqlite_value.specs.declared.value.Value.{Value}
use Rattle.sqlite_value.specs.Order.{Row}
use Rattle.office_values.specs.Ids.{id_cmp}
use Rattle.office_base.specs.Tables.{lot_cmp, entry_cmp, line_key, lot_key, contract_key, entry_key}
use Rattle.office_tables.specs.Kept.{Stand}
use Rattle.office_ledger.specs.Cells.{LineCells, LotCells, ContractCells, EntryCells, Show}

-- rows that hold a table show its records, however the other columns are written
abbrev pub ShowsBy : {K X : Type 0} → (K → K → Ordering) → (X → K) → (Row → X → Type 0) → Type 0
ShowsBy {K} {X} R key cells =
    (form : Value → X → Row) (decode : Row → X) → ((v : Value) (x : X) → cells (form v x) x) → (rows : List Row) (xs : List X) → Stand R key form decode rows xs → Show cells rows xs

-- rows that hold lines, lots, contracts or entries show them
pub record StoredRowsShow : Type 0 where
  pub lines : ShowsBy id_cmp line_key LineCells
  pub lots : ShowsBy lot_cmp lot_key LotCells
  pub contracts : ShowsBy nat_cmp contract_key ContractCells
  pub entries : ShowsBy entry_cmp entry_key EntryCells
