-- The join of an office's tables: each budget line with each of its lots, each lot with each of its contracts, each contract with each of its entries. A
-- record without any of these has one row, alone.
use Rattle.std.specs.Prelude.{ℕ, List, [], ◌∷◌, map, flat_map, Option, Some, None}
use Rattle.office_base.specs.Tables.{Tables, lot_key, lots_of_line, contracts_of_lot, entries_of_contract}
use Rattle.office_base.specs.declared.records.LineRow.{LineRow}
use Rattle.office_base.specs.declared.records.LotRow.{LotRow}
use Rattle.office_base.specs.declared.records.ContractRow.{ContractRow}
use Rattle.office_base.specs.declared.records.EntryRow.{EntryRow}
use Rattle.office_ledger.specs.declared.joined.JoinedRow.{JoinedRow}
use Rattle.office_ledger.specs.declared.joined.JoinedLot.{JoinedLot}
use Rattle.office_ledger.specs.declared.joined.JoinedContract.{JoinedContract}
use Rattle.office_ledger.specs.declared.joined.JoinedEntry.{JoinedEntry}

-- each element, or one `None` if there are no elements, as in a left join
abbrev pub or_none : {X : Type 0} → List X → List (Option X)
or_none [] = None ∷ []
or_none (x ∷ xs) = map Some (x ∷ xs)

-- the part of a joined row that shows an entry
abbrev pub entry_part : EntryRow → JoinedEntry
entry_part e = record { entry = e.entry; kind = e.kind; amount = e.amount }

-- a contract with an entry, a lot with a contract, or a line with a lot; without one if there is none
abbrev pub with_entry : ContractRow → Option JoinedEntry → JoinedContract
with_entry c entry = record { contract = c.contract; signed = c.signed; released = c.released; entry = entry }

abbrev pub with_contract : LotRow → Option JoinedContract → JoinedLot
with_contract l contract = record { notice = l.notice; lot = l.lot; reserved = l.reserved; contract = contract }

abbrev pub with_lot : LineRow → Option JoinedLot → JoinedRow
with_lot r lot = record { line = r.line; appropriation = r.appropriation; free = r.free; lot = lot }

-- the joined rows of one contract, of one lot, and of one line
abbrev pub joined_contract : Tables → ContractRow → List JoinedContract
joined_contract t c = map (with_entry c) (or_none (map entry_part (entries_of_contract c.contract t)))

abbrev pub joined_lot : Tables → LotRow → List JoinedLot
joined_lot t l = map (with_contract l) (or_none (flat_map (joined_contract t) (contracts_of_lot (lot_key l) t)))

abbrev pub joined_line : Tables → LineRow → List JoinedRow
joined_line t r = map (with_lot r) (or_none (flat_map (joined_lot t) (lots_of_line r.line t)))

-- the joined rows of a line's lots, and those of all lines
abbrev pub joined_lots : List ℕ → Tables → List JoinedLot
joined_lots line t = flat_map (joined_lot t) (lots_of_line line t)

-- the join of all lines of the office, in the order of its keys
abbrev pub joined : Tables → List JoinedRow
joined t = flat_map (joined_line t) t.lines
