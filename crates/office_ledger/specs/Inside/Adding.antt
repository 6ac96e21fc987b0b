-- How joined rows are added up, one after another: the step for a row, and the sums so far.
use Rattle.std.specs.Prelude.{ℕ, ◌+◌, ◌-◌, ◌*◌, ◌^◌, ◌<◌, Bool, false, cond, ◌&&◌, nat_eq, nat_le, List, [], ◌∷◌, ◌++◌, Option, Some, None}
use Rattle.office_values.specs.Ids.{same_id}
use Rattle.office_values.specs.Money.{total_limit}
use Rattle.office_base.specs.EntrySums.{sums_with_entry}
use Rattle.office_base.specs.LineSums.{outstanding_in, paid_in}
use Rattle.office_base.specs.Tables.{same_number}
use Rattle.office_base.specs.declared.ledger.ContractSums.{ContractSums}
use Rattle.office_base.specs.declared.ledger.LedgerRow.{LedgerRow}
use Rattle.office_base.specs.declared.ledger.Pots.{Pots}
use Rattle.office_ledger.specs.declared.joined.JoinedRow.{JoinedRow}
use Rattle.office_ledger.specs.declared.joined.JoinedLot.{JoinedLot}
use Rattle.office_ledger.specs.declared.joined.JoinedContract.{JoinedContract}
use Rattle.office_ledger.specs.declared.joined.JoinedEntry.{JoinedEntry}
use Rattle.office_ledger.specs.declared.line_sums.OpenContract.{OpenContract}
use Rattle.office_ledger.specs.declared.line_sums.LineSums.{LineSums}
use Rattle.office_ledger.specs.declared.ledger_sums.OpenLine.{OpenLine}

-- ---- a contract

-- a contract at the first of its rows: signed and released amounts count, entries don't yet
abbrev pub opened : JoinedContract → OpenContract
opened c = record { contract = c.contract; sums = record { gained = c.signed; lost = c.released; paid = 0 } }

-- the sums of a contract after one more entry
abbrev pub contract_with : JoinedEntry → OpenContract → OpenContract
contract_with e current = record { contract = current.contract; sums = sums_with_entry e.kind e.amount current.sums }

-- the amount by which a contract has lost more than it gained
abbrev pub overdrawn_in : ContractSums → ℕ
overdrawn_in sums = sums.lost - sums.gained

-- ---- the lots of a line

-- the sums of a line before its first row
abbrev pub no_sums : LineSums
no_sums = record { reserved = 0; outstanding = 0; overdrawn = 0; paid = 0; lot = None; contract = None }

-- the sums of a line after one of its contracts is complete
abbrev pub with_sums : ContractSums → LineSums → LineSums
with_sums sums s = record s { outstanding = s.outstanding + outstanding_in sums; overdrawn = s.overdrawn + overdrawn_in sums; paid = s.paid + paid_in sums; contract = None }

-- adds a complete contract to the sums of its line
abbrev pub settle : Option OpenContract → LineSums → LineSums
settle None s = s
settle (Some current) s = with_sums current.sums s

-- the sums of a line after its current contract is complete
abbrev pub settled : LineSums → LineSums
settled s = settle s.contract s

-- whether the rows that come now are of this contract
abbrev pub is_contract : ℕ → Option OpenContract → Bool
is_contract contract None = false
is_contract contract (Some current) = same_number current.contract contract

-- whether the rows that come now are of this lot
abbrev pub is_lot : List ℕ × List ℕ → Option (List ℕ × List ℕ) → Bool
is_lot key None = false
is_lot key (Some current) = same_id current.0 key.0 && same_id current.1 key.1

-- the current contract after one more entry
abbrev pub entry_added : JoinedEntry → Option OpenContract → Option OpenContract
entry_added e None = None
entry_added e (Some current) = Some (contract_with e current)

-- the sums of a line after one more entry of the current contract
abbrev pub take_entry : JoinedEntry → LineSums → LineSums
take_entry e s = record s { contract = entry_added e s.contract }

-- counts a contract once, at the first of its rows; the contract before it is then complete
abbrev pub enter_contract : JoinedContract → LineSums → LineSums
enter_contract c s = cond (is_contract c.contract s.contract) s (record (settled s) { contract = Some (opened c) })

-- takes the part of a row, if the row has it
abbrev pub take_perhaps : {X : Type 0} → (X → LineSums → LineSums) → Option X → LineSums → LineSums
take_perhaps take None s = s
take_perhaps take (Some x) s = take x s

-- the sums of a line after a row of this contract, with its entry
abbrev pub take_contract : JoinedContract → LineSums → LineSums
take_contract c s = take_perhaps take_entry c.entry (enter_contract c s)

-- a lot is known by its notice and its identifier, and counts once, at the first of its rows
abbrev pub joined_lot_key : JoinedLot → List ℕ × List ℕ
joined_lot_key l = (l.notice, l.lot)

-- a new lot adds its reserved amount, and is the current lot
abbrev pub lot_opened : JoinedLot → LineSums → LineSums
lot_opened l s = record s { reserved = s.reserved + l.reserved; lot = Some (joined_lot_key l) }

-- counts a lot once, at the first of its rows; the contract before it is then complete
abbrev pub enter_lot : JoinedLot → LineSums → LineSums
enter_lot l s = cond (is_lot (joined_lot_key l) s.lot) s (lot_opened l (settled s))

-- the sums of a line after a row of this lot, with its contract
abbrev pub take_lot : JoinedLot → LineSums → LineSums
take_lot l s = take_perhaps take_contract l.contract (enter_lot l s)

-- the sums of the current contract, or 0 if there is none
abbrev pub open_sums : Option OpenContract → ContractSums
open_sums None = record { gained = 0; lost = 0; paid = 0 }
open_sums (Some current) = current.sums

-- after this number of further amounts, each sum is still below 2^128
pub record HasRoom (amounts : ℕ) (s : LineSums) : Type 0 where
  pub reserved : s.reserved + amounts * 2 ^ 50 < 2 ^ 128
  pub gained : s.outstanding + (open_sums s.contract).gained + amounts * 2 ^ 50 < 2 ^ 128
  pub lost : s.overdrawn + (open_sums s.contract).lost + amounts * 2 ^ 50 < 2 ^ 128
  pub paid : s.paid + (open_sums s.contract).paid + amounts * 2 ^ 50 < 2 ^ 128

-- ---- the lines

-- no contract is overdrawn, and each sum is at most the limit of a budget line
abbrev pub sums_fit : LineSums → Bool
sums_fit s = nat_eq s.overdrawn 0 && nat_le s.reserved total_limit && nat_le s.outstanding total_limit && nat_le s.paid total_limit

-- the balances of a line by these sums
abbrev pub pots_by : ℕ → ℕ → LineSums → Pots
pots_by appropriation free s = record { appropriation = appropriation; free = free; reserved = s.reserved; contracted = s.outstanding; paid = s.paid }

-- the ledger row of a line with these sums, or none if a sum is out of its range
abbrev pub row_by : OpenLine → LineSums → Option LedgerRow
row_by line s = cond (sums_fit s) (Some (record { line = line.line; pots = pots_by line.appropriation line.free s })) None

-- the ledger with one more row; there is none if a row before was out of its range
abbrev pub and_row : Option (List LedgerRow) → Option LedgerRow → Option (List LedgerRow)
and_row None row = None
and_row (Some rows) None = None
and_row (Some rows) (Some row) = Some (rows ++ row ∷ [])

-- The ledger of the lines that are complete, or none if a sum was out of its range; then the current line, and its sums so far.
pub record Added : Type 0 where
  pub rows : Option (List LedgerRow)
  pub line : Option OpenLine
  pub sums : LineSums

-- the state before the first row
abbrev pub nothing_added : Added
nothing_added = record { rows = Some []; line = None; sums = no_sums }

-- the ledger after the current line is complete
abbrev pub close : Option OpenLine → Added → Option (List LedgerRow)
close None s = s.rows
close (Some line) s = and_row s.rows (row_by line (settled s.sums))

-- the ledger of the rows so far, as if they were all rows
abbrev pub closed : Added → Option (List LedgerRow)
closed s = close s.line s

-- the current line is complete, and no line is current
abbrev pub done : Added → Added
done s = record s { rows = closed s; line = None }

-- whether the rows that come now are of this line
abbrev pub is_line : List ℕ → Option OpenLine → Bool
is_line line None = false
is_line line (Some current) = same_id current.line line

abbrev pub line_opened : JoinedRow → OpenLine
line_opened r = record { line = r.line; appropriation = r.appropriation; free = r.free }

-- the first row of a line completes the line before it
abbrev pub enter_line : JoinedRow → Added → Added
enter_line r s = cond (is_line r.line s.line) s (record { rows = closed s; line = Some (line_opened r); sums = no_sums })

-- the state after one more joined row
abbrev pub take_row : JoinedRow → Added → Added
take_row r s = record (enter_line r s) { sums = take_perhaps take_lot r.lot (enter_line r s).sums }

-- takes the rows one after another, the first row first
abbrev pub fold_rows : {R S : Type 0} → (R → S → S) → List R → S → S
fold_rows take [] s = s
fold_rows take (r ∷ rs) s = fold_rows take rs (take r s)

-- the state after these joined rows
abbrev pub added : List JoinedRow → Added
added rows = fold_rows take_row rows nothing_added
