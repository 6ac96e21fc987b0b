-- The rows that pass a test stay if a put row fails the test and replaces none or one that fails it.
use Rattle.office_sums.proofs.Names.{◌≡◌, Bool, true, false, cond, List, [], ◌∷◌, map, filter, Some, None, refl, sym, ap, ◌∙◌, AllByRecursion, Ordering, Less, Equal, Greater, by_order, row_at, row_put, holds_of}

module _ {K X : Type 0} (R : K → K → Ordering) (key : X → K) (p : X → Bool) where
  put_step : (x : X) (xs : List X) (r : X) → p r ≡ false
      → (holds_of p (row_at R key xs (key r)) ≡ false → filter p (row_put R key xs r) ≡ filter p xs)
      → (c : Ordering) → holds_of p (by_order c None (Some x) (row_at R key xs (key r))) ≡ false
      → filter p (by_order c (r ∷ x ∷ xs) (r ∷ xs) (x ∷ row_put R key xs r)) ≡ filter p (x ∷ xs)
  put_step x xs r fails ih Less h = ap (λ b. cond b (r ∷ filter p (x ∷ xs)) (filter p (x ∷ xs))) fails
  put_step x xs r fails ih Equal h =
      ap (λ b. cond b (r ∷ filter p xs) (filter p xs)) fails ∙ sym (ap (λ b. cond b (x ∷ filter p xs) (filter p xs)) h)
  put_step x xs r fails ih Greater h = ap (λ ys. cond (p x) (x ∷ ys) ys) (ih h)

  pub filter-put : (xs : List X) (r : X) → p r ≡ false → holds_of p (row_at R key xs (key r)) ≡ false → filter p (row_put R key xs r) ≡ filter p xs
  unfolding row_at row_put
  filter-put [] r fails h = ap (λ b. cond b (r ∷ []) []) fails
  filter-put (x ∷ xs) r fails h = put_step x xs r fails (filter-put xs r fails) (R (key r) (key x)) h

-- tests that agree
pub filter-ext : {X : Type 0} (p q : X → Bool) → ((x : X) → p x ≡ q x) → (xs : List X) → filter p xs ≡ filter q xs
filter-ext p q h [] = refl
filter-ext p q h (x ∷ xs) = ap (λ ys. cond (p x) (x ∷ ys) ys) (filter-ext p q h xs) ∙ ap (λ b. cond b (x ∷ filter q xs) (filter q xs)) (h x)

map_step : {X Y : Type 0} (f g : X → Y) (x : X) (kept : List X) → map f kept ≡ map g kept → (b : Bool) → (b ≡ true → f x ≡ g x) → map f (cond b (x ∷ kept) kept) ≡ map g (cond b (x ∷ kept) kept)
map_step f g x kept ih true h = ap (λ y. y ∷ map f kept) (h refl) ∙ ap (λ ys. g x ∷ ys) ih
map_step f g x kept ih false h = ih

-- two functions that agree on each row that passes make the same of these rows
pub map-filter-ext : {X Y : Type 0} (f g : X → Y) (p : X → Bool) (xs : List X) → AllByRecursion (λ x. p x ≡ true → f x ≡ g x) xs → map f (filter p xs) ≡ map g (filter p xs)
map-filter-ext f g p [] h = refl
map-filter-ext f g p (x ∷ xs) h = map_step f g x (filter p xs) (map-filter-ext f g p xs h.1) (p x) h.0
