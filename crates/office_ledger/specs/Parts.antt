-- The columns of a row, from one on, that hold an entry, a contract with its entry, or a lot with its contract.
use Rattle.std.specs.Prelude.{ℕ, ◌+◌, ◌++◌}
use Rattle.sqlite_value.specs.Order.{Row}
use Rattle.office_tables.specs.Values.{three_from}

abbrev pub columns_of_entry : Row → ℕ → Row
columns_of_entry r at = three_from r at

abbrev pub columns_of_contract : Row → ℕ → Row
columns_of_contract r at = three_from r at ++ columns_of_entry r (at + 3)

abbrev pub columns_of_lot : Row → ℕ → Row
columns_of_lot r at = three_from r at ++ columns_of_contract r (at + 3)
