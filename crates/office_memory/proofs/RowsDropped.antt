-- Putting a row after drops is the same as dropping after the put, unless a drop has the row's key.
use Rattle.office_memory.proofs.Names.{◌≡◌, Bool, true, false, cond, not, List, [], ◌∷◌, ◌++◌, filter, refl, sym, ap, ◌∙◌, IsTotalOrder, is_eq, eq_by_cmp, ordering_reverse, Ordering, Less, Equal, Greater, RowsAreKept, by_order, row_put, row_drop, IsInOrder, alike_right, tied, put_first, start-drop, rows_drop}

cons_cond : {X : Type 0} (b : Bool) (x : X) (xs ys : List X) → x ∷ cond b xs ys ≡ cond b (x ∷ xs) (x ∷ ys)
cons_cond true x xs ys = refl
cons_cond false x xs ys = refl

module _ {K X : Type 0} {R : K → K → Ordering} (o : IsTotalOrder R) (key : X → K) where
  after_it : (a b : K) → R a b ≡ Greater → R b a ≡ Less
  after_it a b e = o.antisymm b a ∙ ap ordering_reverse e

  one_step : (k : K) (r : X) (c : Ordering) → R k (key r) ≡ c → r ∷ [] ≡ cond (is_eq c) (r ∷ []) (by_order c (r ∷ []) [] (r ∷ []))
  one_step k r Less e = refl
  one_step k r Equal e = refl
  one_step k r Greater e = refl

  -- the new row comes before the first row
  put_before : (k : K) (r x : X) (xs : List X) → R (key r) (key x) ≡ Less → IsInOrder R key (x ∷ xs) → (c : Ordering) → R k (key r) ≡ c
      → row_put R key (row_drop R key (x ∷ xs) k) r ≡ cond (is_eq c) (r ∷ x ∷ xs) (by_order c (r ∷ x ∷ xs) (x ∷ xs) (r ∷ row_drop R key (x ∷ xs) k))
  unfolding row_put row_drop
  put_before k r x xs e h Less c =
      ap (λ a. row_put R key (by_order a (x ∷ xs) xs (x ∷ row_drop R key xs k)) r) (o.trans k (key r) (key x) c e)
      ∙ ap (λ b. by_order b (r ∷ x ∷ xs) (r ∷ xs) (x ∷ row_put R key xs r)) e
  put_before k r x xs e h Equal c =
      ap (λ a. row_put R key (by_order a (x ∷ xs) xs (x ∷ row_drop R key xs k)) r) (o.congr k (key r) (key x) c ∙ e)
      ∙ ap (λ b. by_order b (r ∷ x ∷ xs) (r ∷ xs) (x ∷ row_put R key xs r)) e
  put_before k r x xs e h Greater c = put_first R key r (row_drop R key (x ∷ xs) k) (start-drop o key (key r) (x ∷ xs) k e h)

  -- the new row replaces the first row
  put_at : (k : K) (r x : X) (xs : List X) → R (key r) (key x) ≡ Equal → IsInOrder R key (x ∷ xs) → (c : Ordering) → R k (key r) ≡ c
      → row_put R key (row_drop R key (x ∷ xs) k) r ≡ cond (is_eq c) (r ∷ xs) (by_order c (r ∷ xs) xs (r ∷ row_drop R key xs k))
  unfolding row_put row_drop
  put_at k r x xs e h Less c =
      ap (λ a. row_put R key (by_order a (x ∷ xs) xs (x ∷ row_drop R key xs k)) r) (sym (alike_right o k (key r) (key x) e) ∙ c)
      ∙ ap (λ b. by_order b (r ∷ x ∷ xs) (r ∷ xs) (x ∷ row_put R key xs r)) e
  put_at k r x xs e h Equal c =
      ap (λ a. row_put R key (by_order a (x ∷ xs) xs (x ∷ row_drop R key xs k)) r) (sym (alike_right o k (key r) (key x) e) ∙ c)
      ∙ put_first R key r xs (tied o key (key r) (key x) xs e h.0)
  put_at k r x xs e h Greater c =
      ap (λ a. row_put R key (by_order a (x ∷ xs) xs (x ∷ row_drop R key xs k)) r) (sym (alike_right o k (key r) (key x) e) ∙ c)
      ∙ ap (λ b. by_order b (r ∷ x ∷ row_drop R key xs k) (r ∷ row_drop R key xs k) (x ∷ row_put R key (row_drop R key xs k) r)) e

  -- the new row comes after the first row
  put_after : (k : K) (r x : X) (xs : List X) → R (key r) (key x) ≡ Greater
      → row_put R key (row_drop R key xs k) r ≡ cond (eq_by_cmp R k (key r)) (row_put R key xs r) (row_drop R key (row_put R key xs r) k)
      → (a : Ordering) → R k (key x) ≡ a
      → row_put R key (by_order a (x ∷ xs) xs (x ∷ row_drop R key xs k)) r
      ≡ cond (eq_by_cmp R k (key r)) (x ∷ row_put R key xs r) (by_order a (x ∷ row_put R key xs r) (row_put R key xs r) (x ∷ row_drop R key (row_put R key xs r) k))
  unfolding row_put
  put_after k r x xs e ih Less a =
      ap (λ b. by_order b (r ∷ x ∷ xs) (r ∷ xs) (x ∷ row_put R key xs r)) e
      ∙ sym (ap (λ c. cond (is_eq c) (x ∷ row_put R key xs r) (x ∷ row_put R key xs r)) (o.trans k (key x) (key r) a (after_it (key r) (key x) e)))
  put_after k r x xs e ih Equal a =
      sym (ap (λ c. cond (is_eq c) (x ∷ row_put R key xs r) (row_put R key xs r)) (o.congr k (key x) (key r) a ∙ after_it (key r) (key x) e))
  put_after k r x xs e ih Greater a =
      ap (λ b. by_order b (r ∷ x ∷ row_drop R key xs k) (r ∷ row_drop R key xs k) (x ∷ row_put R key (row_drop R key xs k) r)) e
      ∙ ap (λ rows. x ∷ rows) ih
      ∙ cons_cond (eq_by_cmp R k (key r)) x (row_put R key xs r) (row_drop R key (row_put R key xs r) k)

  put_step : (k : K) (r x : X) (xs : List X) → IsInOrder R key (x ∷ xs)
      → row_put R key (row_drop R key xs k) r ≡ cond (eq_by_cmp R k (key r)) (row_put R key xs r) (row_drop R key (row_put R key xs r) k)
      → (b : Ordering) → R (key r) (key x) ≡ b
      → row_put R key (row_drop R key (x ∷ xs) k) r
      ≡ cond (eq_by_cmp R k (key r)) (by_order b (r ∷ x ∷ xs) (r ∷ xs) (x ∷ row_put R key xs r)) (row_drop R key (by_order b (r ∷ x ∷ xs) (r ∷ xs) (x ∷ row_put R key xs r)) k)
  unfolding row_drop
  put_step k r x xs h ih Less e = put_before k r x xs e h (R k (key r)) refl
  put_step k r x xs h ih Equal e = put_at k r x xs e h (R k (key r)) refl
  put_step k r x xs h ih Greater e = put_after k r x xs e ih (R k (key x)) refl

  -- A put after a drop: a drop of the row's own key has no effect, and any other drop may be made after the put.
  pub put_dropped : (xs : List X) (k : K) (r : X) → IsInOrder R key xs
      → row_put R key (row_drop R key xs k) r ≡ cond (eq_by_cmp R k (key r)) (row_put R key xs r) (row_drop R key (row_put R key xs r) k)
  unfolding row_put row_drop
  put_dropped [] k r h = one_step k r (R k (key r)) refl
  put_dropped (x ∷ xs) k r h = put_step k r x xs h (put_dropped xs k r h.1) (R (key r) (key x)) refl

  module _ (laws : RowsAreKept R key) where
    keep_step : (keep : K → Bool) (k : K) (ks : List K) (r : X) (xs : List X)
        → row_put R key (row_drop R key xs k) r ≡ cond (eq_by_cmp R k (key r)) (row_put R key xs r) (row_drop R key (row_put R key xs r) k)
        → row_put R key (rows_drop R key (row_drop R key xs k) ks) r ≡ rows_drop R key (row_put R key (row_drop R key xs k) r) (filter keep ks)
        → (b : Bool) → eq_by_cmp R k (key r) ≡ b → (c : Bool) → keep k ≡ c → c ≡ not b
        → row_put R key (rows_drop R key (row_drop R key xs k) ks) r ≡ rows_drop R key (row_put R key xs r) (cond c (k ∷ filter keep ks) (filter keep ks))
    keep_step keep k ks r xs one ih true e true kept same = cc
    keep_step keep k ks r xs one ih true e false kept same =
        ih ∙ ap (λ rows. rows_drop R key rows (filter keep ks)) (one ∙ ap (λ b. cond b (row_put R key xs r) (row_drop R key (row_put R key xs r) k)) e)
    keep_step keep k ks r xs one ih false e true kept same =
        ih ∙ ap (λ rows. rows_drop R key rows (filter keep ks)) (one ∙ ap (λ b. cond b (row_put R key xs r) (row_drop R key (row_put R key xs r) k)) e)
    keep_step keep k ks r xs one ih false e false kept same = cc

    -- a put after several drops: the drops of other keys may be made after the put
    pub put_over_drops : (keep : K → Bool) (ks : List K) (xs : List X) (r : X) → ((k : K) → keep k ≡ not (eq_by_cmp R k (key r))) → IsInOrder R key xs
        → row_put R key (rows_drop R key xs ks) r ≡ rows_drop R key (row_put R key xs r) (filter keep ks)
    put_over_drops keep [] xs r same h = refl
    put_over_drops keep (k ∷ ks) xs r same h =
        keep_step keep k ks r xs (put_dropped xs k r h) (put_over_drops keep ks (row_drop R key xs k) r same (laws.order_drop xs k h))
        (eq_by_cmp R k (key r)) refl (keep k) refl (same k)

-- appending a key to the list drops one more row
pub rows_drop-push : {K X : Type 0} (R : K → K → Ordering) (key : X → K) (xs : List X) (ks : List K) (k : K) → rows_drop R key xs (ks ++ k ∷ []) ≡ row_drop R key (rows_drop R key xs ks) k
rows_drop-push R key xs [] k = refl
rows_drop-push R key xs (j ∷ ks) k = rows_drop-push R key (row_drop R key xs j) ks k
