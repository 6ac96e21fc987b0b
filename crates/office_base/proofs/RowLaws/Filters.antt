-- Laws of rows that pass a test: they are in order, and a look-up finds those that pass.
use Rattle.office_base.proofs.Names.{◌≡◌, Bool, true, false, cond, ◌&&◌, List, [], ◌∷◌, filter, Option, Some, None, refl, sym, ap, ◌∙◌, AllByRecursion, IsTotalOrder, Ordering, Less, Equal, Greater, by_order, row_at, StartsAbove, IsInOrder}
use Rattle.office_base.proofs.RowLaws.Keyed.{IsKeyed}
use Rattle.office_base.proofs.RowLaws.Starts.{above, tied, all_above, none_below, start_of}

-- the row, if it exists and passes a test
abbrev pub if_passes : {X : Type 0} → (X → Bool) → Option X → Option X
if_passes p None = None
if_passes p (Some x) = cond (p x) (Some x) None

-- if all rows have a property, so have those that pass a test
pub all_filter : {X : Type 0} (P : X → Type 0) (p : X → Bool) (xs : List X) → AllByRecursion P xs → AllByRecursion P (filter p xs)
all_filter P p [] h = tt
all_filter P p (x ∷ xs) h = elim (p x) as (λ b. AllByRecursion P (cond b (x ∷ filter p xs) (filter p xs))) [ true ↦ (h.0, all_filter P p xs h.1) | false ↦ all_filter P p xs h.1 ]

filter_step : {X : Type 0} (p : X → Bool) (x : X) (once twice : List X) → filter p once ≡ twice → (b : Bool) → filter p (cond b (x ∷ once) once) ≡ cond (b && p x) (x ∷ twice) twice
filter_step p x once twice ih true = ap (λ ys. cond (p x) (x ∷ ys) ys) ih
filter_step p x once twice ih false = ih

-- filtering by one test and then by another is filtering by both
pub filter_filter : {X : Type 0} (p q : X → Bool) (xs : List X) → filter p (filter q xs) ≡ filter (λ x. q x && p x) xs
filter_filter p q [] = refl
filter_filter p q (x ∷ xs) = filter_step p x (filter q xs) (filter (λ x. q x && p x) xs) (filter_filter p q xs) (q x)

-- rows that start above a key still do if some are left out
pub start-filter : {K X : Type 0} {R : K → K → Ordering} (o : IsTotalOrder R) (key : X → K) (k : K) (p : X → Bool) (xs : List X)
    → StartsAbove R key k xs → IsInOrder R key xs → StartsAbove R key k (filter p xs)
start-filter {R = R} o key k p xs s order = start_of R key k (filter p xs) (all_filter (λ x. R k (key x) ≡ Less) p xs (all_above o key k xs s order))

module _ {K X : Type 0} {R : K → K → Ordering} (o : IsTotalOrder R) (key : X → K) where
  -- the rows that pass a test are in order
  pub in_order-filter : (p : X → Bool) (xs : List X) → IsInOrder R key xs → IsInOrder R key (filter p xs)
  in_order-filter p [] order = tt
  in_order-filter p (x ∷ xs) order =
      elim (p x) as (λ b. IsInOrder R key (cond b (x ∷ filter p xs) (filter p xs))) [
        | true ↦ (start-filter o key (key x) p xs order.0 order.1, in_order-filter p xs order.1)
        | false ↦ in_order-filter p xs order.1
      ]

module _ {K X : Type 0} {R : K → K → Ordering} {key : X → K} (t : IsKeyed R key) where
  -- a look-up among the rows that pass a test finds the row that a look-up among all rows finds, if that one passes
  pub row_at-filter : (p : X → Bool) (xs : List X) (q : K) → IsInOrder R key xs → row_at R key (filter p xs) q ≡ if_passes p (row_at R key xs q)
  unfolding row_at
  row_at-filter p [] q order = refl
  row_at-filter p (x ∷ xs) q order =
      elim (p x) as (λ b. p x ≡ b → row_at R key (cond b (x ∷ filter p xs) (filter p xs)) q ≡ if_passes p (by_order (R q (key x)) None (Some x) (row_at R key xs q))) [
        | true ↦ λ e. elim (R q (key x)) as (λ r. by_order r None (Some x) (row_at R key (filter p xs) q) ≡ if_passes p (by_order r None (Some x) (row_at R key xs q))) [ Less ↦ refl | Equal ↦ ap (λ b. cond b (Some x) None) (sym e) | Greater ↦ row_at-filter p xs q order.1 ]
        | false ↦ λ e. elim (R q (key x)) as (λ r. R q (key x) ≡ r → row_at R key (filter p xs) q ≡ if_passes p (by_order r None (Some x) (row_at R key xs q))) [
          | Less ↦ λ r. none_below R key q (filter p xs) (start-filter t.total key q p xs (above t.total key q (key x) xs r order.0) order.1)
          | Equal ↦ λ r. none_below R key q (filter p xs) (start-filter t.total key q p xs (tied t.total key q (key x) xs r order.0) order.1) ∙ ap (λ b. cond b (Some x) None) (sym e)
          | Greater ↦ λ r. row_at-filter p xs q order.1
        ] refl
      ] refl
