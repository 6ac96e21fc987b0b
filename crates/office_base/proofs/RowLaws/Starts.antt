-- Rows in the order of their keys: if the first one is above a key, all are.
use Rattle.office_base.proofs.Names.{◌≡◌, List, [], ◌∷◌, Some, None, refl, ap, ◌∙◌, AllByRecursion, IsTotalOrder, Ordering, Less, Equal, by_order, row_at, StartsAbove, IsInOrder}

-- if all rows are above a key, the first one is
pub start_of : {K X : Type 0} (R : K → K → Ordering) (key : X → K) (k : K) (xs : List X) → AllByRecursion (λ x. R k (key x) ≡ Less) xs → StartsAbove R key k xs
start_of R key k [] all = tt
start_of R key k (x ∷ xs) all = all.0

-- a look-up of a key below the first row finds nothing
pub none_below : {K X : Type 0} (R : K → K → Ordering) (key : X → K) (k : K) (xs : List X) → StartsAbove R key k xs → row_at R key xs k ≡ None
unfolding row_at
none_below R key k [] s = refl
none_below R key k (x ∷ xs) s = ap (λ c. by_order c None (Some x) (row_at R key xs k)) s

module _ {K X : Type 0} {R : K → K → Ordering} (o : IsTotalOrder R) (key : X → K) where
  -- rows that start above a key start above every lower key
  pub above : (k q : K) (xs : List X) → R k q ≡ Less → StartsAbove R key q xs → StartsAbove R key k xs
  above k q [] e s = tt
  above k q (x ∷ xs) e s = o.trans k q (key x) e s

  -- rows that start above a key start above every key that compares as equal with it
  pub tied : (k q : K) (xs : List X) → R k q ≡ Equal → StartsAbove R key q xs → StartsAbove R key k xs
  tied k q [] e s = tt
  tied k q (x ∷ xs) e s = o.congr k q (key x) e ∙ s

  -- each row is above a key that the first row is above
  pub all_above : (k : K) (xs : List X) → StartsAbove R key k xs → IsInOrder R key xs → AllByRecursion (λ x. R k (key x) ≡ Less) xs
  all_above k [] s order = tt
  all_above k (x ∷ xs) s order = (s, all_above k xs (above k (key x) xs s order.0) order.1)
