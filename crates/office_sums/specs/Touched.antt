-- The budget lines that a change touches: those whose sums it may change.
use Rattle.std.specs.Prelude.{◌≡◌, ℕ, false, List, [], ◌∷◌, ◌++◌, map, Option, Some, None}
use Rattle.std.specs.List.{AllByRecursion}
use Rattle.office_values.specs.Ids.{same_id}
use Rattle.office_base.specs.Tables.{Tables, IsSorted, lot_at, contract_at, lot_key, after_put}
use Rattle.office_base.specs.Joined.{reservations, contracts_of_line, sums_of}
use Rattle.office_base.specs.declared.records.LotRow.{LotRow}
use Rattle.office_base.specs.declared.records.ContractRow.{ContractRow}
use Rattle.office_base.specs.declared.ledger.LineAmounts.{LineAmounts}
use Rattle.office_base.specs.declared.puts.Put.{Put}
use Rattle.office_base.specs.declared.puts.Put.TheVariants as puts

-- the line of a lot, if it exists
abbrev pub lines_of_lot : Option LotRow → List (List ℕ)
lines_of_lot None = []
lines_of_lot (Some lot) = lot.line ∷ []

-- the line of a contract's lot, if both exist
abbrev pub lines_of_contract : Tables → Option ContractRow → List (List ℕ)
lines_of_contract t None = []
lines_of_contract t (Some c) = lines_of_lot (lot_at (c.notice, c.lot) t)

-- The lines that a change touches. A lot touches its line, a contract the line of its lot, and an entry the line of its contract's lot. So does each row that a
-- lot or a contract replaces. Other rows touch no line.
abbrev pub touched : Put → Tables → List (List ℕ)
touched (puts.Lot r) t = r.line ∷ lines_of_lot (lot_at (lot_key r) t)
touched (puts.Contract r) t = lines_of_contract t (Some r) ++ lines_of_contract t (contract_at r.contract t)
touched (puts.Entry r) t = lines_of_contract t (contract_at r.contract t)
touched _ t = []

-- the line is none of these
abbrev pub IsNoneOf : List ℕ → List (List ℕ) → Type 0
IsNoneOf line lines = AllByRecursion (λ other. same_id other line ≡ false) lines

-- the amounts that add up to the sums of a line: what each of its lots reserved, and the sums of each contract of these lots
abbrev pub joined_amounts : List ℕ → Tables → LineAmounts
joined_amounts line t = record { reserved = reservations line t; contracts = map (sums_of t.entries) (contracts_of_line line t) }

-- a change that doesn't touch a line leaves the amounts that add up to its sums
abbrev pub AmountsStay : Type 0
AmountsStay = (p : Put) (t : Tables) (line : List ℕ) → IsSorted t → IsNoneOf line (touched p t) → joined_amounts line (after_put p t) ≡ joined_amounts line t
