-- Joined rows are read back from their columns.
use Rattle.office_ledger.proofs.Names.{◌≡◌, [], ◌∷◌, Option, Some, None, refl, ap, EntryKind, Raise, Cut, Payment, JoinedRow, JoinedLot, JoinedContract, JoinedEntry, entry_kind_text, entry_kind_in, joined_cells, joined_read, joined_lot_read, joined_lot_cells, JoinedRowsComeBack, JoinedLotsComeBack}

kind_back : (k : EntryKind) → entry_kind_in (entry_kind_text k) ≡ k
kind_back Raise = refl
kind_back Cut = refl
kind_back Payment = refl

abbrev with_kind_of : JoinedEntry → EntryKind → Option JoinedEntry
with_kind_of e k = Some (record { entry = e.entry; kind = k; amount = e.amount })

pub lot_back : (l : JoinedLot) → joined_lot_read (joined_lot_cells l) ≡ l
lot_back l = by l.contract
  where
    with_contract : Option JoinedContract → JoinedLot
    with_contract c = record { notice = l.notice; lot = l.lot; reserved = l.reserved; contract = c }

    entry_by : (c : JoinedContract) (e : Option JoinedEntry) → joined_lot_read (joined_lot_cells (with_contract (Some (record c { entry = e })))) ≡ with_contract (Some (record c { entry = e }))
    entry_by c None = refl
    entry_by c (Some e) = ap (λ k. with_contract (Some (record c { entry = with_kind_of e k }))) (kind_back e.kind)

    by : (c : Option JoinedContract) → joined_lot_read (joined_lot_cells (with_contract c)) ≡ with_contract c
    by None = refl
    by (Some c) = entry_by c c.entry

pub row_back : (r : JoinedRow) → joined_read (joined_cells r) ≡ r
row_back r = by r.lot
  where
    with_lot : Option JoinedLot → JoinedRow
    with_lot l = record { line = r.line; appropriation = r.appropriation; free = r.free; lot = l }

    by : (l : Option JoinedLot) → joined_read (joined_cells (with_lot l)) ≡ with_lot l
    by None = refl
    by (Some l) = ap (λ x. with_lot (Some x)) (lot_back l)

pub rows_come_back : JoinedRowsComeBack
rows_come_back [] = refl
rows_come_back (r ∷ rows) = λ i. row_back r i ∷ rows_come_back rows i

pub lots_come_back : JoinedLotsComeBack
lots_come_back [] = refl
lots_come_back (l ∷ lots) = λ i. lot_back l i ∷ lots_come_back lots i
