-- The rows between two keys, and the order of the rows of a tree.
use Rattle.keyed_table.proofs.Names.{◌≡◌, Bool, true, false, cond, not, ◌&&◌, List, [], ◌∷◌, filter, Option, Some, None, ℕ, ◌≤◌, ◌++◌, length, take, refl, sym, ap, ◌∙◌, IsTotalOrder, list_all, AllByRecursion, IsStrictlySortedBy, keys_of, values_of, is_eq, is_le, is_lt, Ordering, Less, Equal, and_parts, append-nil, take_all, take-append_seam, sorted_head, sorted_tail, StartsAbove, IsInOrder, is_after, rows_after, stands_at_its_key, is_between, rows_between, start_of, range_contains, Unbounded, alike_right, equal_from_test}

and_true : (b : Bool) → b && true ≡ b
and_true true = refl
and_true false = refl

-- the first n elements of a list, given that list in two parts of which the first has n elements
pub front_is : {X : Type 0} (xs ys zs : List X) (n : ℕ) → xs ++ ys ≡ zs → length xs ≡ n → xs ≡ take n zs
front_is xs ys zs n all many = sym (take-append_seam xs ys) ∙ ap (λ k. take k (xs ++ ys)) many ∙ ap (take n) all

-- a list of at most n elements is its own first n elements
pub whole_is : {X : Type 0} (xs ys zs : List X) (n : ℕ) → xs ++ ys ≡ zs → ys ≡ [] → length xs ≤ n → xs ≡ take n zs
whole_is xs ys zs n all none few = sym (take_all n xs few) ∙ ap (take n) (sym (append-nil xs) ∙ ap (λ l. xs ++ l) (sym none) ∙ all)

values_cond : {K X : Type 0} (c : Bool) (e : K × X) (es : List (K × X)) → values_of (cond c (e ∷ es) es) ≡ cond c (e.1 ∷ values_of es) (values_of es)
values_cond true e es = refl
values_cond false e es = refl

module _ {K X : Type 0} {R : K → K → Ordering} (o : IsTotalOrder R) (key : X → K) where
  -- keys that compare as equal are between the same keys
  pub is_between-alike : (a b k q : K) → R k q ≡ Equal → is_between R a b k ≡ is_between R a b q
  is_between-alike a b k q e =
      ap (λ c. is_le c && not (is_lt (R b k))) (alike_right o a k q e)
      ∙ ap (λ c. is_le (R a q) && not (is_lt c)) (alike_right o b k q e)

  -- the rows of the entries between two keys are the rows between them
  pub values-between : (a b : K) (es : List (K × X)) → list_all (stands_at_its_key R key) es ≡ true
      → values_of (filter (λ e. is_between R a b e.0) es) ≡ rows_between R key a b (values_of es)
  values-between a b [] own = refl
  values-between a b (e ∷ es) own =
      let parts : (is_eq (R e.0 (key e.1)) ≡ true) × (list_all (stands_at_its_key R key) es ≡ true) = and_parts _ _ own in
      let among = filter (λ (f : K × X). is_between R a b f.0) es in
      values_cond (is_between R a b e.0) e among
      ∙ ap (λ c. cond c (e.1 ∷ values_of among) (values_of among)) (is_between-alike a b e.0 (key e.1) (equal_from_test _ parts.0))
      ∙ ap (λ rows. cond (is_between R a b (key e.1)) (e.1 ∷ rows) rows) (values-between a b es parts.1)

  -- keys that compare as equal come after the same keys
  is_after-alike : (after : Option K) (k q : K) → R k q ≡ Equal → range_contains R (start_of after) Unbounded k ≡ is_after R after q
  is_after-alike None k q e = refl
  is_after-alike (Some a) k q e = and_true (is_lt (R a k)) ∙ ap is_lt (alike_right o a k q e)

  -- the rows of the entries after a key are the rows after it
  pub values-after : (after : Option K) (es : List (K × X)) → list_all (stands_at_its_key R key) es ≡ true
      → values_of (filter (λ e. range_contains R (start_of after) Unbounded e.0) es) ≡ rows_after R key after (values_of es)
  values-after after [] own = refl
  values-after after (e ∷ es) own =
      let parts : (is_eq (R e.0 (key e.1)) ≡ true) × (list_all (stands_at_its_key R key) es ≡ true) = and_parts _ _ own in
      let among = filter (λ (f : K × X). range_contains R (start_of after) Unbounded f.0) es in
      values_cond (range_contains R (start_of after) Unbounded e.0) e among
      ∙ ap (λ c. cond c (e.1 ∷ values_of among) (values_of among)) (is_after-alike after e.0 (key e.1) (equal_from_test _ parts.0))
      ∙ ap (λ rows. cond (is_after R after (key e.1)) (e.1 ∷ rows) rows) (values-after after es parts.1)

  starts_above : (e : K × X) (es : List (K × X)) → AllByRecursion (λ k. R e.0 k ≡ Less) (keys_of es) → list_all (stands_at_its_key R key) (e ∷ es) ≡ true
      → StartsAbove R key (key e.1) (values_of es)
  starts_above e [] below own = tt
  starts_above e (f ∷ fs) below own =
      let parts : (is_eq (R e.0 (key e.1)) ≡ true) × (list_all (stands_at_its_key R key) (f ∷ fs) ≡ true) = and_parts _ _ own in
      let next : (is_eq (R f.0 (key f.1)) ≡ true) × (list_all (stands_at_its_key R key) fs ≡ true) = and_parts _ _ parts.1 in
      sym (o.congr e.0 (key e.1) (key f.1) (equal_from_test _ parts.0))
      ∙ sym (alike_right o e.0 f.0 (key f.1) (equal_from_test _ next.0))
      ∙ below.0

  -- the rows of a tree are in the order of their keys
  pub in_order-values : (es : List (K × X)) → IsStrictlySortedBy R (keys_of es) → list_all (stands_at_its_key R key) es ≡ true → IsInOrder R key (values_of es)
  in_order-values [] rising own = tt
  in_order-values (e ∷ es) rising own = (
    starts_above e es (sorted_head R e.0 (keys_of es) rising) own,
    in_order-values es (sorted_tail R e.0 (keys_of es) rising) (and_parts _ _ own).1,
  )

-- if a test agrees with being between two keys, for every known key, the rows between the keys are those that pass the test
pub between_is : {K X : Type 0} (R : K → K → Ordering) (key : X → K) (IsKnown : K → Type 0) (a b : K) (test : X → Bool) (rows : List X)
    → AllByRecursion (λ r. IsKnown (key r)) rows → ((r : X) → IsKnown (key r) → is_between R a b (key r) ≡ test r) → rows_between R key a b rows ≡ filter test rows
between_is R key IsKnown a b test [] known tells = refl
between_is R key IsKnown a b test (r ∷ rows) known tells =
    ap (λ c. cond c (r ∷ rows_between R key a b rows) (rows_between R key a b rows)) (tells r known.0)
    ∙ ap (λ kept. cond (test r) (r ∷ kept) kept) (between_is R key IsKnown a b test rows known.1 tells)
