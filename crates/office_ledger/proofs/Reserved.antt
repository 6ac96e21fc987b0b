-- The joined rows of lots give the reserved amount of each lot, at the first of its rows.
use Rattle.office_ledger.proofs.Names.{◌≡◌, ℕ, Bool, true, false, cond, List, [], ◌∷◌, ◌++◌, map, flat_map, None, refl, sym, ap, ◌∙◌, append_assoc, append-nil, IsInOrder, Tables, IsSorted, lot_cmp, lot_key, lots_of_line, contracts_of_lot, reservations, LotRow, with_contract, joined_contract, joined_lot, joined_lots, is_lot, fold_rows, LotListing, nothing_reserved, begin_lot, list_reserved, all_reserved, lots_total, in_order-filter}
use Rattle.office_ledger.proofs.Lots.{same_itself, LotsAbove, not_open}
use Rattle.office_ledger.proofs.Taken.{fold_rows-flat_map, grouped}

-- rows that change nothing leave the state as it is
none_counts : {X S : Type 0} (xs : List X) (s : S) → fold_rows (λ x s. s) xs s ≡ s
none_counts [] s = refl
none_counts (x ∷ xs) s = none_counts xs s

module _ (t : Tables) (sorted : IsSorted t) where
  -- ---- a lot

  module _ (x : LotRow) where
    abbrev enter : LotListing → LotListing
    enter s = list_reserved (with_contract x None) s

    abbrev IsIn : LotListing → Type 0
    IsIn s = is_lot (lot_key x) s.lot ≡ true

    entered_by : (b : Bool) (s : LotListing) → is_lot (lot_key x) s.lot ≡ b → is_lot (lot_key x) (cond b s (begin_lot (with_contract x None) s)).lot ≡ true
    entered_by true s e = e
    entered_by false s e = same_itself (lot_key x)

    stays : (s : LotListing) → IsIn s → enter s ≡ s
    stays s h = rw h refl

    one_lot : (s : LotListing) → is_lot (lot_key x) s.lot ≡ false → fold_rows list_reserved (joined_lot t x) s ≡ begin_lot (with_contract x None) s
    one_lot s new =
        grouped list_reserved (with_contract x) enter (λ c s. s) IsIn (λ s. refl) (λ c s. refl) (λ s. entered_by (is_lot (lot_key x) s.lot) s refl) (λ c s h. h) stays
        (flat_map (joined_contract t) (contracts_of_lot (lot_key x) t)) s
        ∙ none_counts (flat_map (joined_contract t) (contracts_of_lot (lot_key x) t)) (enter s)
        ∙ ap (λ b. cond b s (begin_lot (with_contract x None) s)) new

  -- ---- several lots, in the order of their keys

  abbrev list_lots : List LotRow → LotListing → LotListing
  list_lots xs s = fold_rows (λ x. fold_rows list_reserved (joined_lot t x)) xs s

  lots_reserved : (xs : List LotRow) (s : LotListing) → IsInOrder lot_cmp lot_key xs → LotsAbove t sorted s.lot xs → (list_lots xs s).amounts ≡ s.amounts ++ map (λ (l : LotRow). l.reserved) xs
  lots_reserved [] s order above = sym (append-nil s.amounts)
  lots_reserved (x ∷ xs) s order above =
      ap (λ z. (list_lots xs z).amounts) (one_lot x s (not_open t sorted s.lot x xs above))
      ∙ lots_reserved xs (begin_lot (with_contract x None) s) order.1 order.0
      ∙ append_assoc s.amounts (x.reserved ∷ []) (map (λ (l : LotRow). l.reserved) xs)

  -- ---- the lots of a line

  pub reserved_listed : (line : List ℕ) → (all_reserved (joined_lots line t)).amounts ≡ reservations line t
  reserved_listed line =
      ap (λ (s : LotListing). s.amounts) (fold_rows-flat_map list_reserved (joined_lot t) (lots_of_line line t) nothing_reserved)
      ∙ lots_reserved (lots_of_line line t) nothing_reserved (in_order-filter lots_total lot_key _ t.lots sorted.lots) tt
