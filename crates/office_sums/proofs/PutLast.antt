-- A put row that is above each row that passes a test comes last among these, if it passes too.
use Rattle.office_sums.proofs.Names.{◌≡◌, Bool, true, false, cond, List, [], ◌∷◌, ◌++◌, filter, refl, sym, ap, ◌∙◌, IsTotalOrder, AllByRecursion, Ordering, Less, Equal, Greater, by_order, row_put, IsInOrder, tied, all_above}

module _ {K X : Type 0} {R : K → K → Ordering} (o : IsTotalOrder R) (key : X → K) (p : X → Bool) (r : X) where
  -- a row that passes is below the put one
  abbrev pub IsBelow : X → Type 0
  IsBelow x = p x ≡ true → R (key r) (key x) ≡ Greater

  none_step : (x : X) (kept : List X) → R (key r) (key x) ≡ Less → IsBelow x → kept ≡ [] → (b : Bool) → p x ≡ b → cond b (x ∷ kept) kept ≡ []
  none_step x kept less below none true e = absurd (let no : Less ≡ Greater = sym less ∙ below e in cc)
  none_step x kept less below none false e = none

  -- no row above the put one passes
  none_above : (xs : List X) → AllByRecursion (λ x. R (key r) (key x) ≡ Less) xs → AllByRecursion IsBelow xs → filter p xs ≡ []
  none_above [] less below = refl
  none_above (x ∷ xs) less below = none_step x (filter p xs) less.0 below.0 (none_above xs less.1 below.1) (p x) refl

  alone : p r ≡ true → (kept : List X) → kept ≡ [] → cond (p r) (r ∷ kept) kept ≡ kept ++ r ∷ []
  alone own kept none = ap (λ b. cond b (r ∷ kept) kept) own ∙ ap (λ ys. r ∷ ys) none ∙ sym (ap (λ ys. ys ++ r ∷ []) none)

  replaced : p r ≡ true → (x : X) (kept : List X) → R (key r) (key x) ≡ Equal → IsBelow x → kept ≡ [] → (b : Bool) → p x ≡ b
      → cond (p r) (r ∷ kept) kept ≡ cond b (x ∷ kept) kept ++ r ∷ []
  replaced own x kept same below none true e = absurd (let no : Equal ≡ Greater = sym same ∙ below e in cc)
  replaced own x kept same below none false e = alone own kept none

  passed : (x : X) (kept more : List X) → more ≡ kept ++ r ∷ [] → (b : Bool) → cond b (x ∷ more) more ≡ cond b (x ∷ kept) kept ++ r ∷ []
  passed x kept more rest true = ap (λ ys. x ∷ ys) rest
  passed x kept more rest false = rest

  last_step : p r ≡ true → (x : X) (xs : List X) → IsInOrder R key (x ∷ xs) → AllByRecursion IsBelow (x ∷ xs) → filter p (row_put R key xs r) ≡ filter p xs ++ r ∷ []
      → (c : Ordering) → R (key r) (key x) ≡ c → filter p (by_order c (r ∷ x ∷ xs) (r ∷ xs) (x ∷ row_put R key xs r)) ≡ filter p (x ∷ xs) ++ r ∷ []
  last_step own x xs order below rest Less e = alone own (filter p (x ∷ xs)) (none_above (x ∷ xs) (all_above o key (key r) (x ∷ xs) e order) below)
  last_step own x xs order below rest Equal e =
      replaced own x (filter p xs) e below.0 (none_above xs (all_above o key (key r) xs (tied o key (key r) (key x) xs e order.0) order.1) below.1) (p x) refl
  last_step own x xs order below rest Greater e = passed x (filter p xs) (filter p (row_put R key xs r)) rest (p x)

  pub put_last : p r ≡ true → (xs : List X) → IsInOrder R key xs → AllByRecursion IsBelow xs → filter p (row_put R key xs r) ≡ filter p xs ++ r ∷ []
  unfolding row_put
  put_last own [] order below = ap (λ b. cond b (r ∷ []) []) own
  put_last own (x ∷ xs) order below = last_step own x xs order below (put_last own xs order.1 below.1) (R (key r) (key x)) refl
