-- The selects show the joins, in any database that holds an office's lines, lots, contracts and entries.
use Rattle.std.specs.Prelude.{◌≡◌, ℕ, List, [], ◌∷◌, ◌++◌, map, Some}
use Rattle.sqlite_value.specs.declared.value.Value.TheVariants.{Text}
use Rattle.sqlite_value.specs.Order.{Row}
use Rattle.sqlite_trees.specs.declared.store.Store.{Ghosts}
use Rattle.sqlite.specs.Effect.{Database}
use Rattle.sqlite.specs.State.{Shown, Begins}
use Rattle.sqlite.specs.Held.{Held, state}
use Rattle.office_base.specs.Tables.{Tables, IsSorted}
use Rattle.office_ledger.specs.Joins.{joined, joined_lots}
use Rattle.office_ledger.specs.declared.joined.JoinedLot.{JoinedLot}
use Rattle.office_ledger.specs.Select.{Trees4, list_joined}
use Rattle.office_ledger.specs.SelectLots.{list_joined_of_line}
use Rattle.office_ledger.specs.Known.{HoldsFour}
use Rattle.office_ledger.specs.Cells.{LineCells, LotCells, ContractCells, EntryCells, Show, joined_cells, lot_cells}

-- the database has the four tables, and their rows show the records of the office
pub record HoldsJoined (db : Database) (t : Tables) : Type 0 where
  pub at : Trees4
  pub four : HoldsFour db.schema at
  pub sorted : IsSorted t
  pub lines : Show LineCells (db.trees at.lines) t.lines
  pub lots : Show LotCells (db.trees at.lots) t.lots
  pub contracts : Show ContractCells (db.trees at.contracts) t.contracts
  pub entries : Show EntryCells (db.trees at.entries) t.entries

-- the whole answer of the select is the join, in the order of its keys
abbrev pub JoinIsShown : {S : Type 0} → Ghosts S → Type 0
JoinIsShown {S} g = (old new : Held S) (t : Tables) (rows : List Row) → HoldsJoined (state g old).now t → Shown list_joined [] (state g old) (state g new) rows → rows ≡ map joined_cells (joined t)

-- the rows that the select has shown so far are the first rows of the join
abbrev pub JoinIsBegun : {S : Type 0} → Ghosts S → Type 0
JoinIsBegun {S} g = (held : Held S) (t : Tables) (rows : List Row) → HoldsJoined (state g held).now t → Begins list_joined [] (state g held) rows → (rest : List Row) × (rows ++ rest ≡ map joined_cells (joined t))

-- the columns of a joined lot in the answer of the select for one line
abbrev pub joined_lot_cells : JoinedLot → Row
joined_lot_cells l = lot_cells (Some l)

-- the whole answer of the select for one line is the join of the line's lots
abbrev pub LotsAreShown : {S : Type 0} → Ghosts S → Type 0
LotsAreShown {S} g =
    (old new : Held S) (t : Tables) (line : List ℕ) (rows : List Row) → HoldsJoined (state g old).now t → Shown list_joined_of_line (Text line ∷ []) (state g old) (state g new) rows
    → rows ≡ map joined_lot_cells (joined_lots line t)

-- the rows that the select for one line has shown so far are the first rows of the join of the line's lots
abbrev pub LotsAreBegun : {S : Type 0} → Ghosts S → Type 0
LotsAreBegun {S} g =
    (held : Held S) (t : Tables) (line : List ℕ) (rows : List Row) → HoldsJoined (state g held).now t → Begins list_joined_of_line (Text line ∷ []) (state g held) rows
    → (rest : List Row) × (rows ++ rest ≡ map joined_lot_cells (joined_lots line t))
