-- The ledger of an office, as a text: each budget line with its balances.
use Rattle.std.specs.Prelude.{ℕ, List, [], ◌∷◌, ◌++◌, codes, decimal}
use Rattle.std.specs.List.{flat_map}
use Rattle.office_base.specs.declared.ledger.LedgerRow.{LedgerRow}
use Rattle.tender_papers.specs.Lines.{line}

-- the names of the columns
abbrev pub ledger_columns : List (List ℕ)
ledger_columns = codes "line" ∷ codes "appropriation" ∷ codes "free" ∷ codes "reserved" ∷ codes "contracted" ∷ codes "paid" ∷ []

-- the line of a budget line: its identifier, its appropriation and its balances
abbrev pub ledger_line : LedgerRow → List ℕ
ledger_line row =
    line (row.line ∷ decimal row.pots.appropriation ∷ decimal row.pots.free ∷ decimal row.pots.reserved
    ∷ decimal row.pots.contracted ∷ decimal row.pots.paid ∷ [])

-- the text: a line `LEDGER`, the names of the columns, and a line for each budget line
abbrev pub ledger_text : List LedgerRow → List ℕ
ledger_text rows = line (codes "LEDGER" ∷ []) ++ line ledger_columns ++ flat_map ledger_line rows
