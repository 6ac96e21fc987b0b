-- The reserved amounts of lots and the sums of their contracts, taken from joined rows one after another.
use Rattle.std.specs.Prelude.{ℕ, ◌+◌, ◌*◌, ◌^◌, ◌<◌, Bool, false, cond, ◌&&◌, List, [], ◌∷◌, ◌++◌, Option, Some, None}
use Rattle.office_values.specs.Ids.{same_id}
use Rattle.office_base.specs.EntrySums.{sums_with_entry}
use Rattle.office_base.specs.Tables.{same_number}
use Rattle.office_base.specs.declared.ledger.ContractSums.{ContractSums}
use Rattle.office_ledger.specs.declared.joined.JoinedLot.{JoinedLot}
use Rattle.office_ledger.specs.declared.joined.JoinedContract.{JoinedContract}
use Rattle.office_ledger.specs.declared.joined.JoinedEntry.{JoinedEntry}
use Rattle.office_ledger.specs.declared.contract_list.CurrentContract.{CurrentContract}
use Rattle.office_ledger.specs.Inside.Adding.{is_lot, joined_lot_key, fold_rows}

-- ---- the contracts

-- the sums of the contracts that are complete, and the current contract
pub record Listed : Type 0 where
  pub done : List ContractSums
  pub current : Option CurrentContract

-- the state before the first row
abbrev pub nothing_listed : Listed
nothing_listed = record { done = []; current = None }

abbrev pub with_current : Option CurrentContract → List ContractSums → List ContractSums
with_current None done = done
with_current (Some c) done = done ++ c.sums ∷ []

-- the sums of all contracts so far, with the current one
abbrev pub all_listed : Listed → List ContractSums
all_listed s = with_current s.current s.done

-- whether the rows that come now are of this contract
abbrev pub is_current : JoinedLot → ℕ → Option CurrentContract → Bool
is_current l contract None = false
is_current l contract (Some c) = same_id c.notice l.notice && same_id c.lot l.lot && same_number c.contract contract

-- a contract at the first of its rows: signed and released amounts count, entries don't yet
abbrev pub current_of : JoinedLot → JoinedContract → CurrentContract
current_of l c = record { notice = l.notice; lot = l.lot; contract = c.contract; sums = record { gained = c.signed; lost = c.released; paid = 0 } }

-- the first row of a contract completes the contract before it
abbrev pub enter_listed : JoinedLot → JoinedContract → Listed → Listed
enter_listed l c s = cond (is_current l c.contract s.current) s (record { done = all_listed s; current = Some (current_of l c) })

-- the current contract after one more entry
abbrev pub entry_of_current : JoinedEntry → Option CurrentContract → Option CurrentContract
entry_of_current e None = None
entry_of_current e (Some c) = Some (record c { sums = sums_with_entry e.kind e.amount c.sums })

abbrev pub list_entry : JoinedEntry → Listed → Listed
list_entry e s = record s { current = entry_of_current e s.current }

abbrev pub list_perhaps : Option JoinedEntry → Listed → Listed
list_perhaps None s = s
list_perhaps (Some e) s = list_entry e s

-- the state after a row of this contract, with its entry
abbrev pub list_contract : JoinedLot → JoinedContract → Listed → Listed
list_contract l c s = list_perhaps c.entry (enter_listed l c s)

abbrev pub list_lot_by : JoinedLot → Option JoinedContract → Listed → Listed
list_lot_by l None s = s
list_lot_by l (Some c) s = list_contract l c s

-- the state after a row of this lot, with its contract
abbrev pub list_lot : JoinedLot → Listed → Listed
list_lot l s = list_lot_by l l.contract s

-- the state after these joined rows
abbrev pub listed : List JoinedLot → Listed
listed rows = fold_rows list_lot rows nothing_listed

-- the sums of the current contract stay below 2^128 if this number of entries is added
abbrev pub EntriesFit : ℕ → Option CurrentContract → Type 0
EntriesFit n None = Unit {0}
EntriesFit n (Some c) = (c.sums.gained + n * 2 ^ 50 < 2 ^ 128) × (c.sums.lost + n * 2 ^ 50 < 2 ^ 128) × (c.sums.paid + n * 2 ^ 50 < 2 ^ 128)

-- the sums so far, and the number of rows that may still come
pub record ContractListing : Type 0 where
  pub listed : Listed
  pub left : ℕ

-- ---- the lots

-- the reserved amount of each lot so far, and the current lot
pub record LotListing : Type 0 where
  pub amounts : List ℕ
  pub lot : Option (List ℕ × List ℕ)

abbrev pub nothing_reserved : LotListing
nothing_reserved = record { amounts = []; lot = None }

-- the first row of a lot gives its reserved amount
abbrev pub begin_lot : JoinedLot → LotListing → LotListing
begin_lot l s = record { amounts = s.amounts ++ l.reserved ∷ []; lot = Some (joined_lot_key l) }

-- the state after a row of this lot
abbrev pub list_reserved : JoinedLot → LotListing → LotListing
list_reserved l s = cond (is_lot (joined_lot_key l) s.lot) s (begin_lot l s)

-- the reserved amounts of these joined rows, once for each lot
abbrev pub all_reserved : List JoinedLot → LotListing
all_reserved rows = fold_rows list_reserved rows nothing_reserved
