-- How a change moves the sums of budget lines that are remembered. The changes before it in its list count as made.
use Rattle.std.specs.Prelude.{◌≡◌, ℕ, ◌+◌, ◌≤◌, Bool, true, false, cond, ◌&&◌, List, [], ◌∷◌, Option, Some, None, IfSome}
use Rattle.std.specs.Ordering.{eq_by_cmp}
use Rattle.office_values.specs.Ids.{same_id}
use Rattle.office_values.specs.Money.{total_limit}
use Rattle.office_base.specs.EntrySums.{bare_sums, sums_with_entries, sums_with_entry}
use Rattle.office_base.specs.LineSums.{outstanding_in, paid_in}
use Rattle.office_base.specs.Tables.{Tables, IsSorted, lot_cmp, lot_key, entry_key, entry_at, contracts_of_notice, entries_of_contract, after_put, after_puts}
use Rattle.office_base.specs.declared.ledger.ContractSums.{ContractSums}
use Rattle.office_base.specs.declared.records.ContractRow.{ContractRow}
use Rattle.office_base.specs.declared.records.EntryRow.{EntryRow}
use Rattle.office_base.specs.declared.records.LotRow.{LotRow}
use Rattle.office_base.specs.declared.puts.Put.{Put}
use Rattle.office_base.specs.declared.puts.Put.TheVariants as puts
use Rattle.office_sums.specs.Remembered.{sums_at, AreSums, Remembers}
use Rattle.office_sums.specs.Touched.{touched, IsNoneOf}
use Rattle.office_sums.specs.declared.carried.Carried.{Carried}
use Rattle.office_sums.specs.declared.carried.EntrySums.{EntrySums}
use Rattle.office_sums.specs.declared.carried.Reservation.{Reservation}
use Rattle.office_sums.specs.declared.carried.Touch.{Touch}
use Rattle.office_sums.specs.declared.carried.Touch.TheVariants.{Nothing, Line, Any}
use Rattle.office_sums.specs.declared.sums.SumsOfLine.{SumsOfLine}

-- whether a change puts no contract and no entry
abbrev pub leaves_contracts : Put → Bool
leaves_contracts (puts.Contract _) = false
leaves_contracts (puts.Entry _) = false
leaves_contracts _ = true

-- the lot that a change puts under this key, if any
abbrev pub lot_put : List ℕ × List ℕ → Put → Option LotRow
lot_put key (puts.Lot r) = cond (eq_by_cmp lot_cmp key (lot_key r)) (Some r) None
lot_put key _ = None

-- the first row, or if there is none the second one
abbrev pub either_row : {X : Type 0} → Option X → Option X → Option X
either_row None second = second
either_row (Some r) second = Some r

-- the lot that the last of these changes puts under this key, if any
abbrev pub last_lot : List ℕ × List ℕ → List Put → Option LotRow
last_lot key [] = None
last_lot key (p ∷ ps) = either_row (last_lot key ps) (lot_put key p)

-- the line of a lot, and the amount that the lot reserves there
abbrev pub reservation_of : LotRow → Reservation
reservation_of lot = record { line = lot.line; amount = lot.reserved }

-- the sums before any entry
abbrev pub no_sums : ContractSums
no_sums = record { gained = 0; lost = 0; paid = 0 }

-- the sums of the entries of one contract, if they are remembered, are right
pub record KnowsEntries (listed : Option EntrySums) (t : Tables) : Type 0 where
  pub are : IfSome listed (λ l. l.sums ≡ sums_with_entries no_sums (entries_of_contract l.contract t))

-- the sums of a contract with these entries; 0 if there is no contract
abbrev pub sums_before : Option ContractRow → List EntryRow → ContractSums
sums_before None entries = record { gained = 0; lost = 0; paid = 0 }
sums_before (Some c) entries = sums_with_entries (bare_sums c) entries

-- A lot of a line reserves another amount than before. The line's reserved sum changes by the difference, and is within its bound.
pub record AreReserved (old new : SumsOfLine) (before after : ℕ) : Type 0 where
  pub reserved : new.reserved + before ≡ old.reserved + after
  pub contracted : new.contracted ≡ old.contracted
  pub paid : new.paid ≡ old.paid
  pub fits : new.reserved ≤ total_limit

-- One contract has other sums than before. The sums of its line change by the difference, and each is within its bound.
pub record AreShifted (old new : SumsOfLine) (before after : ContractSums) : Type 0 where
  pub reserved : new.reserved ≡ old.reserved
  pub contracted : new.contracted + outstanding_in before ≡ old.contracted + outstanding_in after
  pub paid : new.paid + paid_in before ≡ old.paid + paid_in after
  pub within : after.lost ≤ after.gained
  pub contracted_fits : new.contracted ≤ total_limit
  pub paid_fits : new.paid ≤ total_limit

-- the sums of a line come from those that are remembered: one of its lots reserves another amount than before
pub record FromReserved (known : List (List ℕ × SumsOfLine)) (line : List ℕ) (before after : ℕ) (new : SumsOfLine) : Type 0 where
  pub old : SumsOfLine
  pub there : sums_at known line ≡ Some old
  pub moved : AreReserved old new before after

-- the sums of a line come from those that are remembered: one of its contracts has other sums than before
pub record FromContract (known : List (List ℕ × SumsOfLine)) (line : List ℕ) (before after : ContractSums) (new : SumsOfLine) : Type 0 where
  pub old : SumsOfLine
  pub there : sums_at known line ≡ Some old
  pub moved : AreShifted old new before after

-- a lot of a notice that has no contract reserves an amount
pub record FromNewLot (known : List (List ℕ × SumsOfLine)) (lot : LotRow) (t : Tables) (new : SumsOfLine) : Type 0 where
  pub none : contracts_of_notice lot.notice t ≡ []
  pub from : FromReserved known lot.line 0 lot.reserved new

-- a contract has this row instead of that one
pub record FromNewRow (known : List (List ℕ × SumsOfLine)) (line : List ℕ) (old : Option ContractRow) (c : ContractRow) (t : Tables) (new : SumsOfLine) : Type 0 where
  pub from : FromContract known line (sums_before old (entries_of_contract c.contract t)) (sums_with_entries (bare_sums c) (entries_of_contract c.contract t)) new

-- a contract has one more entry
pub record FromNewEntry (known : List (List ℕ × SumsOfLine)) (line : List ℕ) (c : ContractRow) (e : EntryRow) (t : Tables) (new : SumsOfLine) : Type 0 where
  pub missing : entry_at (entry_key e) t ≡ None
  pub from : FromContract known line (sums_with_entries (bare_sums c) (entries_of_contract e.contract t))
      (sums_with_entry e.kind e.amount (sums_with_entries (bare_sums c) (entries_of_contract e.contract t))) new

-- whether a contract stays under the lot of this row; a new one does
abbrev pub keeps_lot : Option ContractRow → ContractRow → Bool
keeps_lot None c = true
keeps_lot (Some old) c = same_id old.notice c.notice && same_id old.lot c.lot

-- a change of these tables touches no line
pub record TouchesNone (p : Put) (t : Tables) : Type 0 where
  pub each : (line : List ℕ) → IsNoneOf line (touched p t)

-- A change of these tables touches no other line than this one. If sums are given, the line has these after the change, provided that the remembered ones are right.
pub record IsCarried (known : List (List ℕ × SumsOfLine)) (p : Put) (t : Tables) (carried : Carried) : Type 0 where
  pub others : (line : List ℕ) → same_id carried.line line ≡ false → IsNoneOf line (touched p t)
  pub right : IsSorted t → Remembers known t → IfSome carried.sums (λ sums. AreSums carried.line sums (after_put p t))

-- the lines and sums that are given for a change of these tables are right
abbrev pub IsTouch : List (List ℕ × SumsOfLine) → Put → Tables → Touch → Type 0
IsTouch known p t Nothing = TouchesNone p t
IsTouch known p t (Line carried) = IsCarried known p t carried
IsTouch known p t Any = Unit {0}

-- sums that were right before these changes are followed by sums that are right after them
pub record Follows (old new : List (List ℕ × SumsOfLine)) (ps : List Put) (t : Tables) : Type 0 where
  pub right : IsSorted t → Remembers old t → Remembers new (after_puts ps t)

-- the same of one change after others
pub record FollowsOne (old new : List (List ℕ × SumsOfLine)) (before : List Put) (p : Put) (t : Tables) : Type 0 where
  pub right : IsSorted t → Remembers old (after_puts before t) → Remembers new (after_put p (after_puts before t))
