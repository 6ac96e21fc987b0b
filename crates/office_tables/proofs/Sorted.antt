-- Rows in the order of their keys are determined by their look-ups, and are the result of a sort.
use Rattle.office_tables.proofs.Names.{◌≡◌, ℕ, suc, slice_index_or, ◌+◌, ◌≤◌, false, cond, List, [], ◌∷◌, Option, Some, None, refl, sym, ◌∙◌, ap, subst, arith, AllByRecursion, IsSorted, tied_itself, is_eq, is_lt, eq_by_cmp, ordering_reverse, Ordering, Less, Equal, Greater, by_order, IsInOrder, sum_over, IsKeyed, own_key, found_key, above, tied, none_below, of_found}
use Rattle.office_base.specs.Rows.{row_at}

-- no element is less than the one before it
abbrev pub Climbs : {X : Type 0} → (X → X → Ordering) → List X → Type 0
Climbs cmp [] = Unit {0}
Climbs cmp (x ∷ []) = Unit {0}
Climbs cmp (x ∷ y ∷ ys) = (is_lt (cmp y x) ≡ false) × Climbs cmp (y ∷ ys)

pub climbs : {X : Type 0} (cmp : X → X → Ordering) (xs : List X) → IsSorted cmp xs → Climbs cmp xs
climbs cmp [] h = tt
climbs cmp (x ∷ []) h = tt
climbs cmp (x ∷ y ∷ ys) h = (h 0 x (omega arith) (omega arith), climbs cmp (y ∷ ys) (λ k d a b. subst (λ n. is_lt (cmp (slice_index_or (x ∷ y ∷ ys) n d) (slice_index_or (y ∷ ys) k d)) ≡ false) (next k) (h (suc k) d (omega arith) (omega arith))))
  where
    next : (k : ℕ) → suc k + 1 ≡ suc (k + 1)
    next k = omega arith

module _ {K X : Type 0} {R : K → K → Ordering} {key : X → K} (t : IsKeyed R key) where
  no_row : (y : X) → ◌≡◌ {A = Option X} None (Some y) → ⊥
  no_row y e = cc

  -- two ordered lists of rows with the same look-ups are equal
  pub same_rows : (xs ys : List X) → IsInOrder R key xs → IsInOrder R key ys → ((q : K) → row_at R key xs q ≡ row_at R key ys q) → xs ≡ ys
  unfolding row_at
  same_rows [] [] o p h = refl
  same_rows [] (y ∷ ys) o p h = absurd (no_row y (h (key y) ∙ ap (λ o. by_order o None (Some y) (row_at R key ys (key y))) (tied_itself t.total (key y))))
  same_rows (x ∷ xs) [] o p h = absurd (no_row x (sym (h (key x)) ∙ ap (λ o. by_order o None (Some x) (row_at R key xs (key x))) (tied_itself t.total (key x))))
  same_rows (x ∷ xs) (y ∷ ys) o p h =
      elim (R (key x) (key y)) as (λ b. R (key x) (key y) ≡ b → x ∷ xs ≡ y ∷ ys) [
        | Less ↦ λ e. absurd (no_row x (sym (h (key x) ∙ ap (λ o. by_order o None (Some y) (row_at R key ys (key x))) e) ∙ here x xs))
        | Equal ↦ λ e.
            let a : Some x ≡ Some y = sym (here x xs) ∙ h (key x) ∙ ap (λ o. by_order o None (Some y) (row_at R key ys (key x))) e in
            let first : x ≡ y = cc in
            let rest : xs ≡ ys = same_rows xs ys o.1 p.1 (tails (t.exact (key x) (key y) e)) in
            λ i. first i ∷ rest i
        | Greater ↦ λ e.
            let below : R (key y) (key x) ≡ Less = t.total.antisymm (key y) (key x) ∙ ap ordering_reverse e in
            absurd (no_row y (sym (ap (λ o. by_order o None (Some x) (row_at R key xs (key y))) below) ∙ h (key y) ∙ here y ys))
      ] refl
    where
      here : (z : X) (zs : List X) → by_order (R (key z) (key z)) None (Some z) (row_at R key zs (key z)) ≡ Some z
      here z zs = ap (λ o. by_order o None (Some z) (row_at R key zs (key z))) (tied_itself t.total (key z))

      tails : key x ≡ key y → (q : K) → row_at R key xs q ≡ row_at R key ys q
      tails k q =
          elim (R q (key x)) as (λ b. R q (key x) ≡ b → by_order b None (Some x) (row_at R key xs q) ≡ by_order b None (Some y) (row_at R key ys q) → row_at R key xs q ≡ row_at R key ys q) [
            | Less ↦ λ e g. none_below R key q xs (above t.total key q (key x) xs e o.0) ∙ sym (none_below R key q ys (above t.total key q (key y) ys (ap (R q) (sym k) ∙ e) p.0))
            | Equal ↦ λ e g. none_below R key q xs (tied t.total key q (key x) xs e o.0) ∙ sym (none_below R key q ys (tied t.total key q (key y) ys (ap (R q) (sym k) ∙ e) p.0))
            | Greater ↦ λ e g. g
          ] refl (h q ∙ ap (λ k. by_order (R q k) None (Some y) (row_at R key ys q)) (sym k))

  -- two ordered lists with the same rows are equal
  pub same_members : (xs ys : List X) → IsInOrder R key xs → IsInOrder R key ys → AllByRecursion (λ x. row_at R key ys (key x) ≡ Some x) xs → AllByRecursion (λ y. row_at R key xs (key y) ≡ Some y) ys → xs ≡ ys
  same_members xs ys o p h k = same_rows xs ys o p (λ q. at q (row_at R key xs q) (row_at R key ys q) refl refl)
    where
      at : (q : K) (a b : Option X) → row_at R key xs q ≡ a → row_at R key ys q ≡ b → row_at R key xs q ≡ row_at R key ys q
      at q (Some x) b e f = e ∙ sym (of_found R key (λ x. row_at R key ys (key x) ≡ Some x) xs q x h e) ∙ ap (row_at R key ys) (found_key t xs q x e)
      at q None (Some y) e f = ap (row_at R key xs) (sym (found_key t ys q y f)) ∙ of_found R key (λ y. row_at R key xs (key y) ≡ Some y) ys q y k f ∙ sym f
      at q None None e f = e ∙ sym f

  abbrev pub count_at : K → List X → ℕ
  count_at k xs = sum_over (λ x. cond (eq_by_cmp R k (key x)) 1 0) xs

  -- a sort of rows that have different keys gives rows in order
  pub in_order_from_sorted : (xs : List X) → Climbs (λ x y. R (key x) (key y)) xs → ((k : K) → count_at k xs ≤ 1) → IsInOrder R key xs
  in_order_from_sorted [] s c = tt
  in_order_from_sorted (x ∷ []) s c = (tt, tt)
  in_order_from_sorted (x ∷ y ∷ ys) s c = (less (R (key x) (key y)) refl, in_order_from_sorted (y ∷ ys) s.1 (λ k. let m = c k in omega arith))
    where
      less : (o : Ordering) → R (key x) (key y) ≡ o → R (key x) (key y) ≡ Less
      less Less e = e
      less Equal e =
          let a : ◌≡◌ {A = ℕ} (cond (eq_by_cmp R (key x) (key x)) 1 0) 1 = ap (λ b. cond b 1 0) (own_key t.total (key x)) in
          let b : ◌≡◌ {A = ℕ} (cond (eq_by_cmp R (key x) (key y)) 1 0) 1 = ap (λ r. cond (is_eq r) 1 0) e in
          let m = c (key x) in
          absurd (omega (arith, a, b, m))
      less Greater e =
          let f : R (key y) (key x) ≡ Less = t.total.antisymm (key y) (key x) ∙ ap ordering_reverse e in
          absurd (let g = sym (ap is_lt f) ∙ s.0 in cc)
