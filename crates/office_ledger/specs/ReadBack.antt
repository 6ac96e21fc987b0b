-- Joined rows are read back from the rows of the selects.
use Rattle.std.specs.Prelude.{◌≡◌, List, map}
use Rattle.office_ledger.specs.declared.joined.JoinedRow.{JoinedRow}
use Rattle.office_ledger.specs.declared.joined.JoinedLot.{JoinedLot}
use Rattle.office_ledger.specs.Cells.{joined_cells}
use Rattle.office_ledger.specs.Reading.{joined_read, joined_lot_read}
use Rattle.office_ledger.specs.Shows.{joined_lot_cells}

abbrev pub JoinedRowsComeBack : Type 0
JoinedRowsComeBack = (rows : List JoinedRow) → map joined_read (map joined_cells rows) ≡ rows

abbrev pub JoinedLotsComeBack : Type 0
JoinedLotsComeBack = (lots : List JoinedLot) → map joined_lot_read (map joined_lot_cells lots) ≡ lots
