-- How a row of the selects is read as a joined row.
use Rattle.std.specs.Prelude.{ℕ, ◌+◌, Bool, true, false, cond, Option, Some, None}
use Rattle.sqlite_value.specs.declared.value.Value.{Value}
use Rattle.sqlite_value.specs.declared.value.Value.TheVariants.{Null, Int, Real, Text, Blob}
use Rattle.sqlite_value.specs.Order.{Row, column, bytes}
use Rattle.office_tables.specs.Values.{number_in_value}
use Rattle.office_tables.specs.Words.{entry_kind_in}
use Rattle.office_ledger.specs.declared.joined.JoinedRow.{JoinedRow}
use Rattle.office_ledger.specs.declared.joined.JoinedLot.{JoinedLot}
use Rattle.office_ledger.specs.declared.joined.JoinedContract.{JoinedContract}
use Rattle.office_ledger.specs.declared.joined.JoinedEntry.{JoinedEntry}

-- whether a value is anything but NULL
abbrev pub is_there : Value → Bool
is_there Null = false
is_there (Int z) = true
is_there (Real x) = true
is_there (Text t) = true
is_there (Blob b) = true

-- an entry, a contract or a lot from this column on, or none if the column is NULL
abbrev pub entry_from : Row → ℕ → Option JoinedEntry
entry_from r at = cond (is_there (column r at)) (Some (record { entry = bytes (column r at); kind = entry_kind_in (bytes (column r (at + 1))); amount = number_in_value (column r (at + 2)) })) None

abbrev pub contract_from : Row → ℕ → Option JoinedContract
contract_from r at =
    cond (is_there (column r at)) (Some (record { contract = number_in_value (column r at); signed = number_in_value (column r (at + 1)); released = number_in_value (column r (at + 2)); entry = entry_from r (at + 3) })) None

abbrev pub lot_read : Row → ℕ → JoinedLot
lot_read r at = record { notice = bytes (column r at); lot = bytes (column r (at + 1)); reserved = number_in_value (column r (at + 2)); contract = contract_from r (at + 3) }

abbrev pub lot_from : Row → ℕ → Option JoinedLot
lot_from r at = cond (is_there (column r at)) (Some (lot_read r at)) None

-- a row of the ledger's join, and a row of the join of one line's lots
abbrev pub joined_read : Row → JoinedRow
joined_read r = record { line = bytes (column r 0); appropriation = number_in_value (column r 1); free = number_in_value (column r 2); lot = lot_from r 3 }

abbrev pub joined_lot_read : Row → JoinedLot
joined_lot_read r = lot_read r 0
