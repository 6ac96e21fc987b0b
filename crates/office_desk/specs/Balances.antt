-- Budget lines whose balances add up. The store's sums are those of its rows, whatever these rows are.
use Rattle.std.specs.Prelude.{◌≡◌, ℕ, ◌+◌, Bool, List, IfSome, nat_eq}
use Rattle.std.specs.List.{AllByRecursion}
use Rattle.office_base.specs.Joined.{pots_of}
use Rattle.office_base.specs.Tables.{Tables, line_at}
use Rattle.office_base.specs.declared.ledger.LedgerRow.{LedgerRow}
use Rattle.office_base.specs.declared.ledger.Pots.{Pots}
use Rattle.office_base.specs.declared.records.LineRow.{LineRow}

-- The four balances add up to the appropriation.
abbrev pub PotsAddUp : Pots → Type 0
PotsAddUp pots = pots.appropriation ≡ pots.free + pots.reserved + pots.contracted + pots.paid

-- The test of that.
abbrev pub pots_add_up : Pots → Bool
pots_add_up pots = nat_eq pots.appropriation (pots.free + pots.reserved + pots.contracted + pots.paid)

-- The test of a row of the ledger.
abbrev pub row_adds_up : LedgerRow → Bool
row_adds_up row = pots_add_up row.pots

-- The balances of the line with this row add up.
abbrev pub RowAddsUp : Tables → LineRow → Type 0
RowAddsUp s row = PotsAddUp (pots_of row s)

-- The balances of this line add up, if the office has it.
abbrev pub LineAddsUp : List ℕ → Tables → Type 0
LineAddsUp line s = IfSome (line_at line s) (RowAddsUp s)

-- The balances of each line add up.
abbrev pub LedgerAddsUp : Tables → Type 0
LedgerAddsUp s = AllByRecursion (RowAddsUp s) s.lines
