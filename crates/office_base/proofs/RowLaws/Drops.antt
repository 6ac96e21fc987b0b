-- Laws of dropped rows: the keys stay in order, and a look-up no longer finds the row.
use Rattle.office_base.proofs.Names.{◌≡◌, true, false, cond, List, [], ◌∷◌, Option, Some, None, refl, sym, ap, ◌∙◌, IsTotalOrder, is_eq, eq_by_cmp, Ordering, Less, Equal, Greater, by_order, row_at, row_drop, StartsAbove, IsInOrder}
use Rattle.office_base.proofs.ExactKeys.{equal_keys}
use Rattle.office_base.proofs.RowLaws.Keyed.{IsKeyed}
use Rattle.office_base.proofs.RowLaws.Starts.{above, tied, none_below}

module _ {K X : Type 0} {R : K → K → Ordering} (o : IsTotalOrder R) (key : X → K) where
  start_step : (j : K) (x : X) (xs : List X) (k : K) → R j (key x) ≡ Less → IsInOrder R key (x ∷ xs) → (c : Ordering)
      → StartsAbove R key j (by_order c (x ∷ xs) xs (x ∷ row_drop R key xs k))
  start_step j x xs k e order Less = e
  start_step j x xs k e order Equal = above o key j (key x) xs e order.0
  start_step j x xs k e order Greater = e

  -- a drop leaves rows that start above a key above it
  pub start-drop : (j : K) (xs : List X) (k : K) → StartsAbove R key j xs → IsInOrder R key xs → StartsAbove R key j (row_drop R key xs k)
  unfolding row_drop
  start-drop j [] k s order = tt
  start-drop j (x ∷ xs) k s order = start_step j x xs k s order (R k (key x))

  order_step : (x : X) (xs : List X) (k : K) → IsInOrder R key (x ∷ xs) → IsInOrder R key (row_drop R key xs k)
      → StartsAbove R key (key x) (row_drop R key xs k)
      → (c : Ordering) → IsInOrder R key (by_order c (x ∷ xs) xs (x ∷ row_drop R key xs k))
  order_step x xs k order ih s Less = order
  order_step x xs k order ih s Equal = order.1
  order_step x xs k order ih s Greater = (s, ih)

  -- a drop keeps the keys in order
  pub in_order-drop : (xs : List X) (k : K) → IsInOrder R key xs → IsInOrder R key (row_drop R key xs k)
  unfolding row_drop
  in_order-drop [] k order = tt
  in_order-drop (x ∷ xs) k order = order_step x xs k order (in_order-drop xs k order.1) (start-drop (key x) xs k order.0 order.1) (R k (key x))

module _ {K X : Type 0} {R : K → K → Ordering} {key : X → K} (t : IsKeyed R key) where
  -- after a drop, a look-up finds nothing at the dropped key, and the same as before at others
  pub row_at-row_drop : (xs : List X) (k q : K) → IsInOrder R key xs → row_at R key (row_drop R key xs k) q ≡ cond (eq_by_cmp R q k) None (row_at R key xs q)
  unfolding row_at row_drop
  row_at-row_drop [] k q o = elim (eq_by_cmp R q k) as (λ b. ◌≡◌ {A = Option X} None (cond b None None)) [ true ↦ refl | false ↦ refl ]
  row_at-row_drop (x ∷ xs) k q o =
      elim (R k (key x)) as (λ b. R k (key x) ≡ b → row_at R key (by_order b (x ∷ xs) xs (x ∷ row_drop R key xs k)) q ≡ cond (eq_by_cmp R q k) None (by_order (R q (key x)) None (Some x) (row_at R key xs q))) [
        | Less ↦ λ e. elim (eq_by_cmp R q k) as (λ b. eq_by_cmp R q k ≡ b → by_order (R q (key x)) None (Some x) (row_at R key xs q) ≡ cond b None (by_order (R q (key x)) None (Some x) (row_at R key xs q))) [
          | true ↦ λ i. ap (λ r. by_order r None (Some x) (row_at R key xs q)) (ap (λ q. R q (key x)) (equal q k i) ∙ e)
          | false ↦ λ i. refl
        ] refl
        | Equal ↦ λ e. elim (R q k) as (λ r. R q k ≡ r → row_at R key xs q ≡ cond (is_eq r) None (by_order (R q (key x)) None (Some x) (row_at R key xs q))) [
          | Less ↦ λ i. let j : R q (key x) ≡ Less = ap (R q) (sym (t.exact k (key x) e)) ∙ i in none_below R key q xs (above t.total key q (key x) xs j o.0) ∙ sym (ap (λ r. by_order r None (Some x) (row_at R key xs q)) j)
          | Equal ↦ λ i. none_below R key q xs (tied t.total key q (key x) xs (ap (R q) (sym (t.exact k (key x) e)) ∙ i) o.0)
          | Greater ↦ λ i. let j : R q (key x) ≡ Greater = ap (R q) (sym (t.exact k (key x) e)) ∙ i in sym (ap (λ r. by_order r None (Some x) (row_at R key xs q)) j)
        ] refl
        | Greater ↦ λ e. ap (by_order (R q (key x)) None (Some x)) (row_at-row_drop xs k q o.1) ∙ elim (eq_by_cmp R q k) as (λ b. eq_by_cmp R q k ≡ b → by_order (R q (key x)) None (Some x) (cond b None (row_at R key xs q)) ≡ cond b None (by_order (R q (key x)) None (Some x) (row_at R key xs q))) [
          | true ↦ λ i. ap (λ r. by_order r None (Some x) None) (ap (λ q. R q (key x)) (equal q k i) ∙ e)
          | false ↦ λ i. refl
        ] refl
      ] refl
    where
      equal : (a b : K) → eq_by_cmp R a b ≡ true → a ≡ b
      equal = equal_keys t.exact
