-- The columns of rows that the selects read, for records of the four tables and for joined rows.
use Rattle.std.specs.Prelude.{◌≡◌, pos, List, [], ◌∷◌, Option, Some, None}
use Rattle.std.specs.List.Sorted.{IsPermutation}
use Rattle.sqlite_value.specs.declared.value.Value.{Value}
use Rattle.sqlite_value.specs.declared.value.Value.TheVariants.{Null, Int, Text}
use Rattle.sqlite_value.specs.Order.{Row, column}
use Rattle.office_base.specs.declared.records.LineRow.{LineRow}
use Rattle.office_base.specs.declared.records.LotRow.{LotRow}
use Rattle.office_base.specs.declared.records.ContractRow.{ContractRow}
use Rattle.office_base.specs.declared.records.EntryRow.{EntryRow}
use Rattle.office_tables.specs.Words.{entry_kind_text}
use Rattle.office_ledger.specs.declared.joined.JoinedRow.{JoinedRow}
use Rattle.office_ledger.specs.declared.joined.JoinedLot.{JoinedLot}
use Rattle.office_ledger.specs.declared.joined.JoinedContract.{JoinedContract}
use Rattle.office_ledger.specs.declared.joined.JoinedEntry.{JoinedEntry}

-- The columns of a stored row that a select reads, counted from 1. The key of a contract is its rowid, in column 0.
pub record LineCells (r : Row) (x : LineRow) : Type 0 where
  pub line : column r 1 ≡ Text x.line
  pub appropriation : column r 3 ≡ Int (pos x.appropriation)
  pub free : column r 4 ≡ Int (pos x.free)

pub record LotCells (r : Row) (x : LotRow) : Type 0 where
  pub notice : column r 1 ≡ Text x.notice
  pub lot : column r 2 ≡ Text x.lot
  pub line : column r 4 ≡ Text x.line
  pub reserved : column r 9 ≡ Int (pos x.reserved)

pub record ContractCells (r : Row) (x : ContractRow) : Type 0 where
  pub contract : column r 0 ≡ Int (pos x.contract)
  pub notice : column r 2 ≡ Text x.notice
  pub lot : column r 3 ≡ Text x.lot
  pub signed : column r 5 ≡ Int (pos x.signed)
  pub released : column r 9 ≡ Int (pos x.released)

pub record EntryCells (r : Row) (x : EntryRow) : Type 0 where
  pub contract : column r 1 ≡ Int (pos x.contract)
  pub entry : column r 2 ≡ Text x.entry
  pub kind : column r 3 ≡ Text (entry_kind_text x.kind)
  pub amount : column r 4 ≡ Int (pos x.amount)

-- each row shows the record at the same place
abbrev pub Paired : {X : Type 0} → (Row → X → Type 0) → List Row → List X → Type 0
Paired cells [] [] = Unit {0}
Paired cells [] (x ∷ xs) = ⊥
Paired cells (r ∷ rows) [] = ⊥
Paired cells (r ∷ rows) (x ∷ xs) = cells r x × Paired cells rows xs

-- the rows show these records, in any order
pub record Show {X : Type 0} (cells : Row → X → Type 0) (rows : List Row) (xs : List X) : Type 0 where
  pub stored : List X
  pub paired : Paired cells rows stored
  pub same : IsPermutation stored xs

-- ---- a joined row: the columns of its key, and the columns of the answer

-- the value of a part, or NULL if the row doesn't have it
abbrev pub perhaps : {X : Type 0} → (X → Value) → Option X → Value
perhaps cell None = Null
perhaps cell (Some x) = cell x

abbrev pub contract_in : Option JoinedLot → Option JoinedContract
contract_in None = None
contract_in (Some l) = l.contract

abbrev pub entry_in : Option JoinedContract → Option JoinedEntry
entry_in None = None
entry_in (Some c) = c.entry

-- the key of a joined row, part by part: its entry, its contract, the notice and identifier of its lot, and its line
abbrev pub entry_key : Option JoinedEntry → Row
entry_key e = perhaps (λ (e : JoinedEntry). Text e.entry) e ∷ []

abbrev pub contract_key : Option JoinedContract → Row
contract_key c = perhaps (λ (c : JoinedContract). Int (pos c.contract)) c ∷ entry_key (entry_in c)

abbrev pub lot_key : Option JoinedLot → Row
lot_key l = perhaps (λ (l : JoinedLot). Text l.notice) l ∷ perhaps (λ (l : JoinedLot). Text l.lot) l ∷ contract_key (contract_in l)

abbrev pub row_key : JoinedRow → Row
row_key r = Text r.line ∷ lot_key r.lot

-- the columns of a joined row in the answer, part by part: its entry, its contract, its lot, and its line
abbrev pub entry_cells : Option JoinedEntry → Row
entry_cells e = perhaps (λ (e : JoinedEntry). Text e.entry) e ∷ perhaps (λ (e : JoinedEntry). Text (entry_kind_text e.kind)) e ∷ perhaps (λ (e : JoinedEntry). Int (pos e.amount)) e ∷ []

abbrev pub contract_cells : Option JoinedContract → Row
contract_cells c = perhaps (λ (c : JoinedContract). Int (pos c.contract)) c ∷ perhaps (λ (c : JoinedContract). Int (pos c.signed)) c ∷ perhaps (λ (c : JoinedContract). Int (pos c.released)) c ∷ entry_cells (entry_in c)

abbrev pub lot_cells : Option JoinedLot → Row
lot_cells l = perhaps (λ (l : JoinedLot). Text l.notice) l ∷ perhaps (λ (l : JoinedLot). Text l.lot) l ∷ perhaps (λ (l : JoinedLot). Int (pos l.reserved)) l ∷ contract_cells (contract_in l)

abbrev pub joined_cells : JoinedRow → Row
joined_cells r = Text r.line ∷ Int (pos r.appropriation) ∷ Int (pos r.free) ∷ lot_cells r.lot
