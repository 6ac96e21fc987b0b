-- The joined rows of the ledger, one at a time: the rows so far are the first rows of the join. They borrow the store's connection, which keeps the office
-- after each row.
use Rattle.std.specs.Prelude.{◌≡◌, ℕ, List, [], ◌∷◌, ◌++◌, map, Option, Some, None, IsTrue}
use Rattle.sqlite_trees.specs.declared.store.Store.{Ghosts}
use Rattle.sqlite.specs.Given.{HasGiven, IsEnded}
use Rattle.sqlite.specs.Held.{Held, state}
use Rattle.office_base.specs.Shelves.{Keeps}
use Rattle.office_base.specs.Tables.{Tables}
use Rattle.office_ledger.specs.Joins.{joined}
use Rattle.office_ledger.specs.declared.joined.JoinedRow.{JoinedRow}
use Rattle.office_ledger.specs.Cells.{joined_cells}
use Rattle.office_ledger.specs.Select.{list_joined}
use Rattle.office_ledger.specs.Shows.{HoldsJoined}
use Rattle.office_store.specs.SqlMeaning.{sql_meaning}
use Rattle.office_store.specs.declared.ledger_rows.LedgerRows.{LedgerRows}

module _ {S : Type 0} (g : Ghosts S) where
  -- The view of the store while its ledger rows are read: their connection, and the faults that the store had counted. No clause says yet that a store whose
  -- rows are dropped ends like this.
  abbrev pub shelf_left : LedgerRows S g → ℕ → Held S × ℕ
  shelf_left it faults = (it.rows.conn.now, faults)

  -- an earlier call for a row was a fault
  abbrev pub IsBroken : LedgerRows S g → Type 0
  IsBroken it = IsTrue it.is_broken

  -- there are no more rows
  abbrev pub IsAtEnd : LedgerRows S g → Type 0
  IsAtEnd it = IsEnded it.rows.conn.now

  -- the connection has given exactly these rows, which are the first rows of the join of this content
  pub record HasTaken (h : Held S) (t : Tables) (taken : List JoinedRow) : Type 0 where
    pub given : HasGiven g list_joined [] h (map joined_cells taken)
    pub held : HoldsJoined (state g h).now t
    pub first : (rest : List JoinedRow) × (taken ++ rest ≡ joined t)

  -- one more row is given; or there is none, because the rows so far are the whole join
  abbrev pub TakesOn : Held S → Tables → List JoinedRow → Option JoinedRow → Type 0
  TakesOn h t taken (Some row) = HasTaken h t (taken ++ row ∷ [])
  TakesOn h t taken None = taken ≡ joined t

  -- the connection keeps the office that it had, and a stop can leave only what it could leave before
  abbrev pub KeepsOffice : Held S → Held S → Type 0
  KeepsOffice old new = (faults : ℕ) → Keeps (sql_meaning g) (old, faults) (new, faults)
