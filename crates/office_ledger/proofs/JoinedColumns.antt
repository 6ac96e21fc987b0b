-- The columns of lots, contracts and entries in the selects, and the joins. The slot of the lots is a parameter; contracts and entries have the next two.
use Rattle.office_ledger.proofs.Names.{◌≡◌, ◌-◌, nat_lt, ◌∷◌, [], List, Some, Ok, true, false, ℕ, suc, codes, refl, Term, col, op2, And, Schema, Column, same_name, is_key, Expr, Carried, Name, Context, nothing, lower, of_declared, text_column, number_column, both_e, out_both, and_is, Trees4, equals, HoldsFour, lot_columns, contract_columns, entry_columns, at_budget}
use Rattle.sqlite_resolve.specs.declared.compare.Affinity.TheVariants as affinity
use Rattle.office_ledger.proofs.Qualified.{Pick, Finds, equals_e, equal_is}
use Rattle.office_ledger.proofs.JoinedSelect.{Joint, known_by}
use Rattle.office_ledger.proofs.Scoped.{Has}

-- a column that isn't the rowid
abbrev pub column_pick : Name → ℕ → Name → ℕ → Column → Pick
column_pick table slot text k c = record { table = table; text = text; slot = slot; place = k; row = suc k; column = c }

-- a column that is the rowid
abbrev pub key_pick : Name → ℕ → Name → ℕ → Column → Pick
key_pick table slot text k c = record { table = table; text = text; slot = slot; place = k; row = 0; column = c }

module _ (n : ℕ) where
  abbrev pub lot_notice : Pick
  lot_notice = column_pick (codes "lots") n (codes "lots.notice") 0 (text_column (codes "notice"))

  abbrev pub lot_lot : Pick
  lot_lot = column_pick (codes "lots") n (codes "lots.lot") 1 (text_column (codes "lot"))

  abbrev pub lot_line : Pick
  lot_line = column_pick (codes "lots") n (codes "lots.line") 3 (text_column (codes "line"))

  abbrev pub lot_reserved : Pick
  lot_reserved = column_pick (codes "lots") n (codes "lots.reserved") 8 (number_column (codes "reserved"))

  abbrev pub contract_contract : Pick
  contract_contract = key_pick (codes "contracts") (suc n) (codes "contracts.contract") 0 (number_column (codes "contract"))

  abbrev pub contract_notice : Pick
  contract_notice = column_pick (codes "contracts") (suc n) (codes "contracts.notice") 1 (text_column (codes "notice"))

  abbrev pub contract_lot : Pick
  contract_lot = column_pick (codes "contracts") (suc n) (codes "contracts.lot") 2 (text_column (codes "lot"))

  abbrev pub contract_signed : Pick
  contract_signed = column_pick (codes "contracts") (suc n) (codes "contracts.signed") 4 (number_column (codes "signed"))

  abbrev pub contract_released : Pick
  contract_released = column_pick (codes "contracts") (suc n) (codes "contracts.released") 8 (number_column (codes "released"))

  abbrev pub entry_contract : Pick
  entry_contract = column_pick (codes "entries") (suc (suc n)) (codes "entries.contract") 0 (number_column (codes "contract"))

  abbrev pub entry_entry : Pick
  entry_entry = column_pick (codes "entries") (suc (suc n)) (codes "entries.entry") 1 (text_column (codes "entry"))

  abbrev pub entry_kind : Pick
  entry_kind = column_pick (codes "entries") (suc (suc n)) (codes "entries.kind") 2 (text_column (codes "kind"))

  abbrev pub entry_amount : Pick
  entry_amount = column_pick (codes "entries") (suc (suc n)) (codes "entries.amount") 3 (number_column (codes "amount"))

  -- the columns that are shown, and those that give the order
  abbrev pub lot_picks : List Pick
  lot_picks = lot_notice ∷ lot_lot ∷ lot_reserved ∷ contract_contract ∷ contract_signed ∷ contract_released ∷ entry_entry ∷ entry_kind ∷ entry_amount ∷ []

  abbrev pub lot_sorts : List Pick
  lot_sorts = lot_notice ∷ lot_lot ∷ contract_contract ∷ entry_entry ∷ []

  -- the conditions of the joins: contracts of the lot, entries of the contract
  abbrev pub on_lot : Expr
  on_lot = both_e (equals_e contract_notice lot_notice) (equals_e contract_lot lot_lot)

  abbrev pub on_contract : Expr
  on_contract = equals_e entry_contract contract_contract

  -- the compiled form of these conditions
  abbrev pub lot_test : Term
  lot_test = op2 And (equals (col (suc n) 2) (col n 1)) (equals (col (suc n) 3) (col n 2))

  abbrev pub contract_test : Term
  contract_test = equals (col (suc (suc n)) 1) (col (suc n) 0)

  -- the joins of contracts and entries, each with the budget that is left after it
  abbrev pub lot_joints : (schema : Schema) (at : Trees4) → HoldsFour schema at → ℕ → ℕ → List (Joint schema)
  lot_joints schema at four b c =
      record { known = known_by four.contracts; on = on_lot; test = lot_test; left = b } ∷ record { known = known_by four.entries; on = on_contract; test = contract_test; left = c } ∷ []

  -- a scope finds each of these columns
  pub record FindsLots (cx : Context) : Type 0 where
    pub notice : Finds cx lot_notice
    pub lot : Finds cx lot_lot
    pub line : Finds cx lot_line
    pub reserved : Finds cx lot_reserved
    pub contract : Finds cx contract_contract
    pub of_notice : Finds cx contract_notice
    pub of_lot : Finds cx contract_lot
    pub signed : Finds cx contract_signed
    pub released : Finds cx contract_released
    pub of_contract : Finds cx entry_contract
    pub entry : Finds cx entry_entry
    pub kind : Finds cx entry_kind
    pub amount : Finds cx entry_amount

  pub finds_lots : (cx : Context) → ((text : Name) (k : ℕ) (c : Column) → Has lot_columns k c → Finds cx (column_pick (codes "lots") n text k c))
      → ((text : Name) (k : ℕ) (c : Column) → is_key (Some 0) k ≡ false → Has contract_columns k c → Finds cx (column_pick (codes "contracts") (suc n) text k c))
      → ((text : Name) (k : ℕ) (c : Column) → is_key (Some 0) k ≡ true → of_declared c ≡ affinity.Numeric → Has contract_columns k c → Finds cx (key_pick (codes "contracts") (suc n) text k c))
      → ((text : Name) (k : ℕ) (c : Column) → Has entry_columns k c → Finds cx (column_pick (codes "entries") (suc (suc n)) text k c)) → FindsLots cx
  unfolding same_name
  finds_lots cx of_lots of_contracts by_key of_entries = record {
    notice = of_lots (codes "lots.notice") 0 (text_column (codes "notice")) (refl, refl, refl);
    lot = of_lots (codes "lots.lot") 1 (text_column (codes "lot")) (refl, refl, refl);
    line = of_lots (codes "lots.line") 3 (text_column (codes "line")) (refl, refl, refl);
    reserved = of_lots (codes "lots.reserved") 8 (number_column (codes "reserved")) (refl, refl, refl);
    contract = by_key (codes "contracts.contract") 0 (number_column (codes "contract")) refl refl (refl, refl, refl);
    of_notice = of_contracts (codes "contracts.notice") 1 (text_column (codes "notice")) refl (refl, refl, refl);
    of_lot = of_contracts (codes "contracts.lot") 2 (text_column (codes "lot")) refl (refl, refl, refl);
    signed = of_contracts (codes "contracts.signed") 4 (number_column (codes "signed")) refl (refl, refl, refl);
    released = of_contracts (codes "contracts.released") 8 (number_column (codes "released")) refl (refl, refl, refl);
    of_contract = of_entries (codes "entries.contract") 0 (number_column (codes "contract")) (refl, refl, refl);
    entry = of_entries (codes "entries.entry") 1 (text_column (codes "entry")) (refl, refl, refl);
    kind = of_entries (codes "entries.kind") 2 (text_column (codes "kind")) (refl, refl, refl);
    amount = of_entries (codes "entries.amount") 3 (number_column (codes "amount")) (refl, refl, refl);
  }

  -- both conditions are compiled
  module _ (cx : Context) (found : FindsLots cx) (next b : ℕ) (l : Carried) where
    pub lot_lowers : nat_lt 1 b ≡ true → nat_lt 1 (b - 1) ≡ true → nat_lt 1 (b - 1 - 1) ≡ true → nat_lt 1 (b - 1 - 1 - 1) ≡ true → nat_lt 1 (b - 1 - 1 - 1 - 1) ≡ true → nat_lt 1 (b - 1 - 1 - 1 - 1 - 1) ≡ true → nat_lt 1 (b - 1 - 1 - 1 - 1 - 1 - 1) ≡ true
        → lower cx on_lot (at_budget next b l) ≡ Ok (lot_test, at_budget next (b - 1 - 1 - 1 - 1 - 1 - 1 - 1) nothing)
    lot_lowers one two three four five six seven =
        and_is cx on_lot (equals_e contract_notice lot_notice) (equals_e contract_lot lot_lot) _ _ next b (b - 1 - 1 - 1 - 1) (b - 1 - 1 - 1 - 1 - 1 - 1 - 1) l nothing nothing one 699
        (out_both (equals_e contract_notice lot_notice) (equals_e contract_lot lot_lot))
        (equal_is cx contract_notice lot_notice found.of_notice found.notice refl 697 next (b - 1) nothing two three four)
        (equal_is cx contract_lot lot_lot found.of_lot found.lot refl 697 next (b - 1 - 1 - 1 - 1) nothing five six seven)

    pub contract_lowers : nat_lt 1 b ≡ true → nat_lt 1 (b - 1) ≡ true → nat_lt 1 (b - 1 - 1) ≡ true → lower cx on_contract (at_budget next b l) ≡ Ok (contract_test, at_budget next (b - 1 - 1 - 1) nothing)
    contract_lowers one two three = equal_is cx entry_contract contract_contract found.of_contract found.contract refl 698 next b l one two three
