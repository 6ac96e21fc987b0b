-- Scopes of known tables find the columns of these tables.
use Rattle.office_ledger.proofs.Names.{◌≡◌, ◌∷◌, [], List, Option, Some, None, Ok, Bool, true, false, ℕ, suc, slice_get, codes, refl, sym, ap, ◌∙◌, arith, position_from, Binary, Schema, Table, Column, same_name, column_named, is_key, place_of, Bound, Name, find, in_level, only, hit, is_among, column_in, declared, of_column, of_declared, Trees4, Holds, HoldsFour, line_columns, lot_columns, contract_columns, entry_columns, among}
use Rattle.sqlite_resolve.specs.declared.scope.Output.{Output}
use Rattle.sqlite_resolve.specs.declared.scope.Found.TheVariants as found
use Rattle.sqlite_resolve.specs.declared.compare.Affinity.TheVariants as affinity
use Rattle.office_ledger.proofs.Qualified.{Finds, plainly}

abbrev pub bound_of : Name → ℕ → ℕ → Bound
bound_of name at slot = record { name = name; table = at; slot = slot; shared = [] }

-- the place in a row of a column that isn't the rowid, and its collation
placed_is : (table : Table) (k : ℕ) → is_key table.key k ≡ false → place_of table k ≡ suc k
placed_is table k apart = rw apart (omega arith)

carries_is : (table : Table) (k : ℕ) (c : Column) → is_key table.key k ≡ false → c.collation ≡ Binary → declared table k c ≡ plainly
carries_is table k c apart plain = rw (apart, plain) refl

-- the column is at this place among these columns
abbrev pub Has : List Column → ℕ → Column → Type 0
Has columns k c = (position_from (λ d. same_name d.name c.name) 0 columns ≡ Some k) × (slice_get columns k ≡ Some c) × (c.collation ≡ Binary)

-- a column of a table that the scope finds by its name
module _ (schema : Schema) (bounds : List Bound) (name : Name) (columns : List Column) (key : Option ℕ) (tree : ℕ) (h : Holds schema name columns key tree) (slot : ℕ) (shown : List Output) (may alias : Bool) (text : Name) (k : ℕ) (c : Column)
    (has : Has columns k c) where
  stands : slice_get h.table.columns k ≡ Some c
  stands = ap (λ (cs : List Column). slice_get cs k) h.columns_are ∙ has.1

  called : column_named h.table c.name ≡ Some k
  called = ap (λ cs. position_from (λ d. same_name d.name c.name) 0 cs) h.columns_are ∙ has.0

  pub column_found : is_key key k ≡ false → (column_named h.table c.name ≡ Some k → find (among schema bounds shown may alias) (Some name) c.name ≡ Ok (found.Column slot h.place k))
      → (slice_get h.table.columns k ≡ Some c → of_column (among schema bounds shown may alias) slot (suc k) ≡ of_declared c)
      → Finds (among schema bounds shown may alias) (record { table = name; text = text; slot = slot; place = k; row = suc k; column = c })
  column_found apart finds typed =
      let other : is_key h.table.key k ≡ false = ap (λ key. is_key key k) h.key_is ∙ apart in
      record {
        at = h.place;
        whose = h.table;
        finds = finds called;
        found = h.found;
        stands = stands;
        placed = placed_is h.table k other;
        carries = carries_is h.table k c other has.2;
        typed = typed stands;
      }

  -- the rowid
  pub rowid_found : is_key key k ≡ true → (column_named h.table c.name ≡ Some k → find (among schema bounds shown may alias) (Some name) c.name ≡ Ok (found.Column slot h.place k))
      → of_column (among schema bounds shown may alias) slot 0 ≡ of_declared c
      → Finds (among schema bounds shown may alias) (record { table = name; text = text; slot = slot; place = k; row = 0; column = c })
  rowid_found own finds typed =
      let same : is_key h.table.key k ≡ true = ap (λ key. is_key key k) h.key_is ∙ own in
      record {
        at = h.place;
        whose = h.table;
        finds = finds called;
        found = h.found;
        stands = stands;
        placed = rw same refl;
        carries = rw same refl;
        typed = typed;
      }

module _ (schema : Schema) (at : Trees4) (four : HoldsFour schema at) where
  -- lines, lots, contracts and entries
  abbrev pub four_bounds : List Bound
  four_bounds = bound_of (codes "lines") four.lines.place 1 ∷ bound_of (codes "lots") four.lots.place 2 ∷ bound_of (codes "contracts") four.contracts.place 3 ∷ bound_of (codes "entries") four.entries.place 4 ∷ []

  -- lots, contracts and entries
  abbrev pub three_bounds : List Bound
  three_bounds = bound_of (codes "lots") four.lots.place 1 ∷ bound_of (codes "contracts") four.contracts.place 2 ∷ bound_of (codes "entries") four.entries.place 3 ∷ []

  module _ (shown : List Output) (may alias : Bool) (text : Name) (k : ℕ) (c : Column) where
    pub line_of_four : Has line_columns k c → Finds (among schema four_bounds shown may alias) (record { table = codes "lines"; text = text; slot = 1; place = k; row = suc k; column = c })
    unfolding find in_level only hit is_among column_in same_name of_column
    line_of_four has = column_found schema four_bounds (codes "lines") line_columns None at.lines four.lines 1 shown may alias text k c has refl (λ called. rw (four.lines.found, called)) (λ stands. rw (four.lines.found, stands))

    pub lot_of_four : Has lot_columns k c → Finds (among schema four_bounds shown may alias) (record { table = codes "lots"; text = text; slot = 2; place = k; row = suc k; column = c })
    unfolding find in_level only hit is_among column_in same_name of_column
    lot_of_four has = column_found schema four_bounds (codes "lots") lot_columns None at.lots four.lots 2 shown may alias text k c has refl (λ called. rw (four.lots.found, called)) (λ stands. rw (four.lots.found, stands))

    pub contract_of_four : is_key (Some 0) k ≡ false → Has contract_columns k c → Finds (among schema four_bounds shown may alias) (record { table = codes "contracts"; text = text; slot = 3; place = k; row = suc k; column = c })
    unfolding find in_level only hit is_among column_in same_name of_column
    contract_of_four apart has = column_found schema four_bounds (codes "contracts") contract_columns (Some 0) at.contracts four.contracts 3 shown may alias text k c has apart (λ called. rw (four.contracts.found, called)) (λ stands. rw (four.contracts.found, stands))

    -- the rowid of a contract
    pub contract_key_of_four : is_key (Some 0) k ≡ true → of_declared c ≡ affinity.Numeric → Has contract_columns k c → Finds (among schema four_bounds shown may alias) (record { table = codes "contracts"; text = text; slot = 3; place = k; row = 0; column = c })
    unfolding find in_level only hit is_among column_in same_name of_column
    contract_key_of_four own number has = rowid_found schema four_bounds (codes "contracts") contract_columns (Some 0) at.contracts four.contracts 3 shown may alias text k c has own (λ called. rw (four.contracts.found, called)) (sym number)

    pub entry_of_four : Has entry_columns k c → Finds (among schema four_bounds shown may alias) (record { table = codes "entries"; text = text; slot = 4; place = k; row = suc k; column = c })
    unfolding find in_level only hit is_among column_in same_name of_column
    entry_of_four has = column_found schema four_bounds (codes "entries") entry_columns None at.entries four.entries 4 shown may alias text k c has refl (λ called. rw (four.entries.found, called)) (λ stands. rw (four.entries.found, stands))

    pub lot_of_three : Has lot_columns k c → Finds (among schema three_bounds shown may alias) (record { table = codes "lots"; text = text; slot = 1; place = k; row = suc k; column = c })
    unfolding find in_level only hit is_among column_in same_name of_column
    lot_of_three has = column_found schema three_bounds (codes "lots") lot_columns None at.lots four.lots 1 shown may alias text k c has refl (λ called. rw (four.lots.found, called)) (λ stands. rw (four.lots.found, stands))

    pub contract_of_three : is_key (Some 0) k ≡ false → Has contract_columns k c → Finds (among schema three_bounds shown may alias) (record { table = codes "contracts"; text = text; slot = 2; place = k; row = suc k; column = c })
    unfolding find in_level only hit is_among column_in same_name of_column
    contract_of_three apart has = column_found schema three_bounds (codes "contracts") contract_columns (Some 0) at.contracts four.contracts 2 shown may alias text k c has apart (λ called. rw (four.contracts.found, called)) (λ stands. rw (four.contracts.found, stands))

    -- the rowid of a contract
    pub contract_key_of_three : is_key (Some 0) k ≡ true → of_declared c ≡ affinity.Numeric → Has contract_columns k c → Finds (among schema three_bounds shown may alias) (record { table = codes "contracts"; text = text; slot = 2; place = k; row = 0; column = c })
    unfolding find in_level only hit is_among column_in same_name of_column
    contract_key_of_three own number has = rowid_found schema three_bounds (codes "contracts") contract_columns (Some 0) at.contracts four.contracts 2 shown may alias text k c has own (λ called. rw (four.contracts.found, called)) (sym number)

    pub entry_of_three : Has entry_columns k c → Finds (among schema three_bounds shown may alias) (record { table = codes "entries"; text = text; slot = 3; place = k; row = suc k; column = c })
    unfolding find in_level only hit is_among column_in same_name of_column
    entry_of_three has = column_found schema three_bounds (codes "entries") entry_columns None at.entries four.entries 3 shown may alias text k c has refl (λ called. rw (four.entries.found, called)) (λ stands. rw (four.entries.found, stands))
