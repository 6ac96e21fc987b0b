-- Laws of a put: the rows that look-ups find after it, the properties of all rows, and the order of the keys.
use Rattle.office_base.proofs.Names.{◌≡◌, Bool, true, false, cond, List, [], ◌∷◌, Option, Some, None, is_some, IsSome, refl, ap, ◌∙◌, AllByRecursion, IsTotalOrder, is_eq, eq_by_cmp, ordering_reverse, Ordering, Less, Equal, Greater, by_order, row_at, row_put, StartsAbove, IsInOrder}
use Rattle.office_base.proofs.Orders.{same_key, alike_right}
use Rattle.office_base.proofs.RowLaws.Starts.{tied}

at_less : {X : Type 0} (a c : Ordering) (r x : X) (rest : Option X) → (a ≡ Less → c ≡ Less)
    → by_order a None (Some r) (by_order c None (Some x) rest) ≡ cond (is_eq a) (Some r) (by_order c None (Some x) rest)
at_less Less c r x rest h = rw (h refl) refl
at_less Equal c r x rest h = refl
at_less Greater c r x rest h = refl

at_equal : {X : Type 0} (a : Ordering) (r x : X) (rest : Option X) → by_order a None (Some r) rest ≡ cond (is_eq a) (Some r) (by_order a None (Some x) rest)
at_equal Less r x rest = refl
at_equal Equal r x rest = refl
at_equal Greater r x rest = refl

at_greater : {X : Type 0} (a c : Ordering) (r x : X) (rest : Option X) → (a ≡ Equal → c ≡ Greater)
    → by_order c None (Some x) (cond (is_eq a) (Some r) rest) ≡ cond (is_eq a) (Some r) (by_order c None (Some x) rest)
at_greater Less c r x rest h = refl
at_greater Equal c r x rest h = rw (h refl) refl
at_greater Greater c r x rest h = refl

-- a row whose key is below all others becomes the first
pub put_first : {K X : Type 0} (R : K → K → Ordering) (key : X → K) (r : X) (xs : List X) → StartsAbove R key (key r) xs → row_put R key xs r ≡ r ∷ xs
unfolding row_put
put_first R key r [] s = refl
put_first R key r (x ∷ xs) s = ap (λ c. by_order c (r ∷ x ∷ xs) (r ∷ xs) (x ∷ row_put R key xs r)) s

module _ {K X : Type 0} {R : K → K → Ordering} (o : IsTotalOrder R) (key : X → K) where
  found_step : (x : X) (xs : List X) (r : X) (q : K)
      → row_at R key (row_put R key xs r) q ≡ cond (eq_by_cmp R q (key r)) (Some r) (row_at R key xs q)
      → (c : Ordering) → R (key r) (key x) ≡ c
      → row_at R key (by_order c (r ∷ x ∷ xs) (r ∷ xs) (x ∷ row_put R key xs r)) q ≡ cond (eq_by_cmp R q (key r)) (Some r) (row_at R key (x ∷ xs) q)
  unfolding row_at
  found_step x xs r q ih Less e = at_less (R q (key r)) (R q (key x)) r x (row_at R key xs q) (λ a. o.trans q (key r) (key x) a e)
  found_step x xs r q ih Equal e =
      at_equal (R q (key r)) r x (row_at R key xs q)
      ∙ ap (λ c. cond (eq_by_cmp R q (key r)) (Some r) (by_order c None (Some x) (row_at R key xs q))) (alike_right o q (key r) (key x) e)
  found_step x xs r q ih Greater e =
      ap (by_order (R q (key x)) None (Some x)) ih
      ∙ at_greater (R q (key r)) (R q (key x)) r x (row_at R key xs q) (λ a. o.congr q (key r) (key x) a ∙ e)

  -- after a put, a look-up of the row's key finds the row; a look-up of another key finds the same as before
  pub row_at-row_put : (xs : List X) (r : X) (q : K) → row_at R key (row_put R key xs r) q ≡ cond (eq_by_cmp R q (key r)) (Some r) (row_at R key xs q)
  unfolding row_at row_put
  row_at-row_put [] r q = elim (R q (key r)) as (λ a. by_order a None (Some r) None ≡ cond (is_eq a) (Some r) None) [ Less ↦ refl | Equal ↦ refl | Greater ↦ refl ]
  row_at-row_put (x ∷ xs) r q = found_step x xs r q (row_at-row_put xs r q) (R (key r) (key x)) refl

  there_by : (b : Bool) (r : X) (found : Option X) → is_some found ≡ true → is_some (cond b (Some r) found) ≡ true
  there_by true r found h = refl
  there_by false r found h = h

  -- a key at which a row was found still has one after a put
  pub still_there : (xs : List X) (r : X) (q : K) → IsSome (row_at R key xs q) → IsSome (row_at R key (row_put R key xs r) q)
  still_there xs r q h = ap is_some (row_at-row_put xs r q) ∙ there_by (eq_by_cmp R q (key r)) r (row_at R key xs q) h

  above_step : (k : K) (r x : X) (xs : List X) → R k (key r) ≡ Less → R k (key x) ≡ Less → (c : Ordering) → R (key r) (key x) ≡ c
      → StartsAbove R key k (by_order c (r ∷ x ∷ xs) (r ∷ xs) (x ∷ row_put R key xs r))
  above_step k r x xs below first Less e = below
  above_step k r x xs below first Equal e = below
  above_step k r x xs below first Greater e = first

  -- a put of a row above a key leaves rows that start above that key above it
  starts_above-put : (k : K) (r : X) (xs : List X) → R k (key r) ≡ Less → StartsAbove R key k xs → StartsAbove R key k (row_put R key xs r)
  unfolding row_put
  starts_above-put k r [] below h = below
  starts_above-put k r (x ∷ xs) below h = above_step k r x xs below h (R (key r) (key x)) refl

  below_after : (a b : K) → R a b ≡ Greater → R b a ≡ Less
  below_after a b e = o.antisymm b a ∙ ap ordering_reverse e

  order_step : (r x : X) (xs : List X) → StartsAbove R key (key x) xs × IsInOrder R key xs → IsInOrder R key (row_put R key xs r)
      → (c : Ordering) → R (key r) (key x) ≡ c → IsInOrder R key (by_order c (r ∷ x ∷ xs) (r ∷ xs) (x ∷ row_put R key xs r))
  order_step r x xs h ih Less e = (e, h)
  order_step r x xs h ih Equal e = (tied o key (key r) (key x) xs e h.0, h.1)
  order_step r x xs h ih Greater e = (starts_above-put (key x) r xs (below_after (key r) (key x) e) h.0, ih)

  -- a put keeps the keys in order
  pub in_order-put : (xs : List X) (r : X) → IsInOrder R key xs → IsInOrder R key (row_put R key xs r)
  unfolding row_put
  in_order-put [] r h = (tt, tt)
  in_order-put (x ∷ xs) r h = order_step r x xs h (in_order-put xs r h.1) (R (key r) (key x)) refl

  -- if all rows and a new one have a property, so have all rows after the new one was put; this is the step for the first row
  all_step : (P : X → Type 0) (r x : X) (xs : List X) → P r → AllByRecursion P (x ∷ xs) → AllByRecursion P (row_put R key xs r)
      → (c : Ordering) → AllByRecursion P (by_order c (r ∷ x ∷ xs) (r ∷ xs) (x ∷ row_put R key xs r))
  all_step P r x xs one h ih Less = (one, h)
  all_step P r x xs one h ih Equal = (one, h.1)
  all_step P r x xs one h ih Greater = (h.0, ih)

  pub all-put : (P : X → Type 0) (xs : List X) (r : X) → P r → AllByRecursion P xs → AllByRecursion P (row_put R key xs r)
  unfolding row_put
  all-put P [] r one h = (one, tt)
  all-put P (x ∷ xs) r one h = all_step P r x xs one h (all-put P xs r one h.1) (R (key r) (key x))

  put_step : (r x : X) (xs : List X) → row_at R key (row_put R key xs r) (key r) ≡ Some r
      → (c : Ordering) → R (key r) (key x) ≡ c → row_at R key (row_put R key (x ∷ xs) r) (key r) ≡ Some r
  unfolding row_at row_put
  put_step r x xs ih Less h = rw (h, same_key o (key r)) refl
  put_step r x xs ih Equal h = rw (h, same_key o (key r)) refl
  put_step r x xs ih Greater h = rw (h, h) ih

  -- a row that was put is found at its key
  pub put_is_found : (r : X) (xs : List X) → row_at R key (row_put R key xs r) (key r) ≡ Some r
  unfolding row_at row_put
  put_is_found r [] = rw (same_key o (key r)) refl
  put_is_found r (x ∷ xs) = put_step r x xs (put_is_found r xs) (R (key r) (key x)) refl
