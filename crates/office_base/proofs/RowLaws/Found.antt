-- Laws of look-ups: a found row has the key that was asked for, and each row is found at its own key.
use Rattle.office_base.proofs.Names.{◌≡◌, List, [], ◌∷◌, Option, Some, None, refl, sym, ap, subst, ◌∙◌, AllByRecursion, IsTotalOrder, ordering_reverse, Ordering, Less, Equal, Greater, by_order, row_at, IsInOrder}
use Rattle.office_base.proofs.Orders.{same_key}
use Rattle.office_base.proofs.RowLaws.Keyed.{IsKeyed}
use Rattle.office_base.proofs.RowLaws.Starts.{all_above}

module _ {K X : Type 0} {R : K → K → Ordering} (o : IsTotalOrder R) (key : X → K) where
  -- if a property is true of all rows and of finding nothing, it is true of the result of a look-up
  pub all-found : (P : Option X → Type 0) (xs : List X) (q : K) → P None → AllByRecursion (λ x. P (Some x)) xs → P (row_at R key xs q)
  unfolding row_at
  all-found P [] q none h = none
  all-found P (x ∷ xs) q none h = elim (R q (key x)) as (λ c. P (by_order c None (Some x) (row_at R key xs q))) [ Less ↦ none | Equal ↦ h.0 | Greater ↦ all-found P xs q none h.1 ]

  found_key_step : (k : K) (v x : X) (xs : List X) → (row_at R key xs k ≡ Some v → R k (key v) ≡ Equal)
      → (c : Ordering) → R k (key x) ≡ c → row_at R key (x ∷ xs) k ≡ Some v → R k (key v) ≡ Equal
  unfolding row_at
  found_key_step k v x xs ih Less h found = let none : None ≡ Some v = sym (rw h refl) ∙ found in cc
  found_key_step k v x xs ih Equal h found = let one : Some x ≡ Some v = sym (rw h refl) ∙ found in let same : x ≡ v = cc in ap (λ w. R k (key w)) (sym same) ∙ h
  found_key_step k v x xs ih Greater h found = ih (sym (rw h refl) ∙ found)

  -- the key of a found row compares as equal with the one asked for
  pub found_compares : (k : K) (v : X) (xs : List X) → row_at R key xs k ≡ Some v → R k (key v) ≡ Equal
  unfolding row_at
  found_compares k v [] found = cc
  found_compares k v (x ∷ xs) found = found_key_step k v x xs (found_compares k v xs) (R k (key x)) refl found

-- these lemmas need no total order
module _ {K X : Type 0} (R : K → K → Ordering) (key : X → K) where
  -- if all rows have a property, so has a row that is found
  pub of_found : (P : X → Type 0) (xs : List X) (k : K) (v : X) → AllByRecursion P xs → row_at R key xs k ≡ Some v → P v
  unfolding row_at
  of_found P [] k v all e = absurd (let i : ◌≡◌ {A = Option X} None (Some v) = e in cc)
  of_found P (x ∷ xs) k v all e =
      elim (R k (key x)) as (λ b. by_order b None (Some x) (row_at R key xs k) ≡ Some v → P v) [
        | Less ↦ λ h. absurd (let i : ◌≡◌ {A = Option X} None (Some v) = h in cc)
        | Equal ↦ λ h. subst P (let i : Some x ≡ Some v = h in cc) all.0
        | Greater ↦ λ h. of_found P xs k v all.1 h
      ] e

module _ {K X : Type 0} {R : K → K → Ordering} {key : X → K} (t : IsKeyed R key) where
  later : (x : X) (xs ys : List X) → AllByRecursion (λ y. R (key x) (key y) ≡ Less) ys → AllByRecursion (λ y. row_at R key xs (key y) ≡ Some y) ys
      → AllByRecursion (λ y. by_order (R (key y) (key x)) None (Some x) (row_at R key xs (key y)) ≡ Some y) ys
  later x xs [] a b = tt
  later x xs (y ∷ ys) a b = (ap (λ c. by_order c None (Some x) (row_at R key xs (key y))) (t.total.antisymm (key y) (key x) ∙ ap ordering_reverse a.0) ∙ b.0, later x xs ys a.1 b.1)

  -- each row of a table in order is found at its own key
  pub each_found : (xs : List X) → IsInOrder R key xs → AllByRecursion (λ x. row_at R key xs (key x) ≡ Some x) xs
  unfolding row_at
  each_found [] order = tt
  each_found (x ∷ xs) order = (ap (λ c. by_order c None (Some x) (row_at R key xs (key x))) (same_key t.total (key x)), later x xs xs (all_above t.total key (key x) xs order.0 order.1) (each_found xs order.1))
