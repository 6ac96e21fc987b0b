-- A worked example: the join of the office in the example of `office_base`.
use Rattle.std.specs.Prelude.{ℕ, List, [], ◌∷◌, Option, Some, None, codes}
use Rattle.office_base.specs.declared.records.EntryKind.TheVariants.{Payment}
use Rattle.office_ledger.specs.declared.joined.JoinedRow.{JoinedRow}
use Rattle.office_ledger.specs.declared.joined.JoinedLot.{JoinedLot}
use Rattle.office_ledger.specs.declared.joined.JoinedContract.{JoinedContract}
use Rattle.office_ledger.specs.declared.joined.JoinedEntry.{JoinedEntry}

abbrev payment : List ℕ → JoinedEntry
payment entry = record { entry = entry; kind = Payment; amount = 10 }

abbrev contract : ℕ → ℕ → Option JoinedEntry → JoinedContract
contract number signed entry = record { contract = number; signed = signed; released = 0; entry = entry }

abbrev lot : List ℕ → ℕ → Option JoinedContract → JoinedLot
lot name reserved contract = record { notice = codes "N1"; lot = name; reserved = reserved; contract = contract }

abbrev roads : Option JoinedLot → JoinedRow
roads lot = record { line = codes "1000"; appropriation = 1000; free = 820; lot = lot }

-- Lot A has a contract of 100 with two payments of 10, lot B has one of 50, and lot C has reserved 30. The other line has no lots.
abbrev pub worked_join : List JoinedRow
worked_join =
    roads (Some (lot (codes "A") 0 (Some (contract 1 100 (Some (payment (codes "P1")))))))
    ∷ roads (Some (lot (codes "A") 0 (Some (contract 1 100 (Some (payment (codes "P2")))))))
    ∷ roads (Some (lot (codes "B") 0 (Some (contract 2 50 None))))
    ∷ roads (Some (lot (codes "C") 30 None))
    ∷ record { line = codes "2000"; appropriation = 50; free = 50; lot = None }
    ∷ []
