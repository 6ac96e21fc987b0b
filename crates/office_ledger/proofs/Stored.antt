-- Rows that hold a table show its records, in some order.
use Rattle.office_ledger.proofs.Names.{◌≡◌, inl, inr, true, false, List, [], ◌∷◌, map, refl, sym, ap, subst, Ordering, Less, Equal, Greater, true≢false, AllByRecursion, IsPermutation, cases_Bool, IsPermutation-refl, IsPermutation-trans, IsPermutation-cons, IsPermutation-append_comm, IsPermutation-append_left, tied_itself, IsAntisymmetric, nat_cmp-IsAntisymmetric, is_eq, nat_cmp, Value, Row, value_cmp, value_cmp_total, rowid, IsTable, is_int, Has, all_has, all_from, id_cmp, by_order, row_put, equal_from_test, ids_exact, lots_exact, entries_exact, lot_cmp, entry_cmp, line_key, lot_key, contract_key, entry_key, rows_kept, LineCells, LotCells, ContractCells, EntryCells, Paired, ShowsBy, StoredRowsShow}

less_differs : (a b : Row) → value_cmp (rowid a) (rowid b) ≡ Less → a ≡ b → ⊥
less_differs a b l e = let t = tied_itself value_cmp_total (rowid b) in let m = ap (λ z. value_cmp (rowid z) (rowid b)) e in cc

module _ {K X : Type 0} (R : K → K → Ordering) (same : IsAntisymmetric R) (key : X → K) where
  abbrev Differs : X → X → Type 0
  Differs x y = is_eq (R (key x) (key y)) ≡ false

  all_put : (P : X → Type 0) (r : X) (xs : List X) → P r → AllByRecursion P xs → AllByRecursion P (row_put R key xs r)
  unfolding row_put
  all_put P r [] one h = (one, tt)
  all_put P r (x ∷ xs) one h =
      elim (R (key r) (key x)) as (λ c. AllByRecursion P (by_order c (r ∷ x ∷ xs) (r ∷ xs) (x ∷ row_put R key xs r))) [ Less ↦ (one, h) | Equal ↦ (one, h.1) | Greater ↦ (h.0, all_put P r xs one h.1) ]

  put_new : (r : X) (xs : List X) → AllByRecursion (Differs r) xs → IsPermutation (r ∷ xs) (row_put R key xs r)
  unfolding row_put
  put_new r [] h = IsPermutation-refl (r ∷ [])
  put_new r (x ∷ xs) h = by (R (key r) (key x)) h.0 (put_new r xs h.1)
    where
      by : (c : Ordering) → is_eq c ≡ false → IsPermutation (r ∷ xs) (row_put R key xs r) → IsPermutation (r ∷ x ∷ xs) (by_order c (r ∷ x ∷ xs) (r ∷ xs) (x ∷ row_put R key xs r))
      by Less e more = IsPermutation-refl (r ∷ x ∷ xs)
      by Equal e more = absurd (true≢false e)
      by Greater e more = IsPermutation-trans (r ∷ x ∷ xs) (x ∷ r ∷ xs) (x ∷ row_put R key xs r) (IsPermutation-append_left xs (r ∷ x ∷ []) (x ∷ r ∷ []) (IsPermutation-append_comm (r ∷ []) (x ∷ []))) (IsPermutation-cons x (r ∷ xs) (row_put R key xs r) more)

  module _ (form : Value → X → Row) (decode : Row → X) where
    all_records : (P : X → Type 0) (rows : List Row) → AllByRecursion (λ r. P (decode r)) rows → AllByRecursion P (rows_kept R key form decode rows)
    all_records P [] h = tt
    all_records P (r ∷ rows) h = all_put P (decode r) (rows_kept R key form decode rows) h.0 (all_records P rows h.1)

    shuffled : (rows : List Row) → IsTable rows → ((a b : Row) → Has rows a → Has rows b → key (decode a) ≡ key (decode b) → a ≡ b) → IsPermutation (map decode rows) (rows_kept R key form decode rows)
    shuffled [] up one = IsPermutation-refl []
    shuffled (r ∷ rows) up one =
        let apart : AllByRecursion (λ y. Differs (decode r) (decode y)) rows = all_from _ rows (λ y h. elim (cases_Bool (is_eq (R (key (decode r)) (key (decode y))))) [
          | inl tie ↦ absurd (less_differs r y (all_has _ rows y up.0 h) (one r y (inl refl) (inr h) (same (key (decode r)) (key (decode y)) (equal_from_test _ tie))))
          | inr differs ↦ differs
        ]) in
        IsPermutation-trans (decode r ∷ map decode rows) (decode r ∷ rows_kept R key form decode rows) (row_put R key (rows_kept R key form decode rows) (decode r))
        (IsPermutation-cons (decode r) _ _ (shuffled rows up.1 (λ a b h k e. one a b (inr h) (inr k) e)))
        (put_new (decode r) (rows_kept R key form decode rows) (all_records (Differs (decode r)) rows apart))

    paired : (cells : Row → X → Type 0) → ((v : Value) (x : X) → cells (form v x) x) → (rows : List Row) → AllByRecursion (λ r. (is_int (rowid r) ≡ true) × (r ≡ form (rowid r) (decode r))) rows
        → Paired cells rows (map decode rows)
    paired cells shows [] h = tt
    paired cells shows (r ∷ rows) h = (subst (λ z. cells z (decode r)) (sym h.0.1) (shows (rowid r) (decode r)), paired cells shows rows h.1)

  pub stored_show : (cells : Row → X → Type 0) → ShowsBy R key cells
  stored_show cells form decode shows rows xs h = record {
    stored = map decode rows;
    paired = paired form decode cells shows rows h.kept.each;
    same = subst (IsPermutation (map decode rows)) h.is (shuffled form decode rows h.kept.rising h.kept.one);
  }

pub stored_rows_show : StoredRowsShow
stored_rows_show = record {
  lines = stored_show id_cmp ids_exact line_key LineCells;
  lots = stored_show lot_cmp lots_exact lot_key LotCells;
  contracts = stored_show nat_cmp nat_cmp-IsAntisymmetric contract_key ContractCells;
  entries = stored_show entry_cmp entries_exact entry_key EntryCells;
}
