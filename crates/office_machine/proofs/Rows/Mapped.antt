-- A table whose rows are changed in place.
use Rattle.office_machine.proofs.Names.{◌≡◌, ℕ, ◌+◌, Bool, true, false, cond, List, [], ◌∷◌, map, filter, Some, None, option_map, refl, sym, ◌∙◌, ap, subst, arith, AllByRecursion, tied_itself, ordering_reverse, Ordering, Less, Equal, Greater, by_order, row_at, row_put, IsInOrder, sum_over, IsKeyed, all_above, all_filter, sum_over-map}

-- the sum over the rows that pass
pub sum_over-passing : {X : Type 0} (p : X → Bool) (f : X → ℕ) (xs : List X) → sum_over f (filter p xs) ≡ sum_over (λ x. cond (p x) (f x) 0) xs
sum_over-passing p f [] = refl
sum_over-passing p f (x ∷ xs) = elim (p x) as (λ b. sum_over f (cond b (x ∷ filter p xs) (filter p xs)) ≡ cond b (f x) 0 + sum_over (λ x. cond (p x) (f x) 0) xs) [ true ↦ omega (arith, sum_over-passing p f xs) | false ↦ omega (arith, sum_over-passing p f xs) ]

-- rows are changed and put one after another
abbrev pub put_changed : {K X : Type 0} → (K → K → Ordering) → (X → K) → (X → X) → List X → List X → List X
put_changed R key g xs [] = xs
put_changed R key g xs (y ∷ ys) = put_changed R key g (row_put R key xs (g y)) ys

-- each row that passes is changed
abbrev pub changed : {X : Type 0} → (X → Bool) → (X → X) → X → X
changed p g x = cond (p x) (g x) x

module _ {K X : Type 0} {R : K → K → Ordering} {key : X → K} (t : IsKeyed R key) (p : X → Bool) (g : X → X) (keeps : (x : X) → key (g x) ≡ key x) where
  put_behind : (x y : X) (xs : List X) → R (key x) (key y) ≡ Less → row_put R key (x ∷ xs) (g y) ≡ x ∷ row_put R key xs (g y)
  unfolding row_put
  put_behind x y xs h = ap (λ o. by_order o (g y ∷ x ∷ xs) (g y ∷ xs) (x ∷ row_put R key xs (g y))) (ap (λ k. R k (key x)) (keeps y) ∙ t.total.antisymm (key y) (key x) ∙ ap ordering_reverse h)

  put_here : (x : X) (xs : List X) → row_put R key (x ∷ xs) (g x) ≡ g x ∷ xs
  unfolding row_put
  put_here x xs = ap (λ o. by_order o (g x ∷ x ∷ xs) (g x ∷ xs) (x ∷ row_put R key xs (g x))) (ap (λ k. R k (key x)) (keeps x) ∙ tied_itself t.total (key x))

  -- rows above the first one are put after it
  behind : (x : X) (xs ys : List X) → AllByRecursion (λ y. R (key x) (key y) ≡ Less) ys → put_changed R key g (x ∷ xs) ys ≡ x ∷ put_changed R key g xs ys
  behind x xs [] h = refl
  behind x xs (y ∷ ys) h = ap (λ zs. put_changed R key g zs ys) (put_behind x y xs h.0) ∙ behind x (row_put R key xs (g y)) ys h.1

  -- putting the changed rows that pass changes each row that passes
  pub put_changed_is : (xs : List X) → IsInOrder R key xs → put_changed R key g xs (filter p xs) ≡ map (changed p g) xs
  put_changed_is [] o = refl
  put_changed_is (x ∷ xs) o =
      let above = all_filter (λ y. R (key x) (key y) ≡ Less) p xs (all_above t.total key (key x) xs o.0 o.1) in
      elim (p x) as (λ b. put_changed R key g (x ∷ xs) (cond b (x ∷ filter p xs) (filter p xs)) ≡ cond b (g x) x ∷ map (changed p g) xs) [
        | true ↦
            ap (λ zs. put_changed R key g zs (filter p xs)) (put_here x xs)
            ∙ behind (g x) xs (filter p xs) (subst (λ k. AllByRecursion (λ y. R k (key y) ≡ Less) (filter p xs)) (sym (keeps x)) above)
            ∙ ap (λ zs. g x ∷ zs) (put_changed_is xs o.1)
        | false ↦ behind x xs (filter p xs) above ∙ ap (λ zs. x ∷ zs) (put_changed_is xs o.1)
      ]

  -- a sum over the table after the changed rows that pass are put
  pub sum-put_changed : (f : X → ℕ) (xs : List X) → IsInOrder R key xs → sum_over f (put_changed R key g xs (filter p xs)) ≡ sum_over (λ x. f (changed p g x)) xs
  sum-put_changed f xs o = ap (sum_over f) (put_changed_is xs o) ∙ sum_over-map f (changed p g) xs

  -- the sum loses the amounts of the rows that pass, and gains the amounts of the changed rows
  pub sum-put_filtered : (f : X → ℕ) (xs : List X) → IsInOrder R key xs → sum_over f (put_changed R key g xs (filter p xs)) + sum_over f (filter p xs) ≡ sum_over f xs + sum_over (λ x. f (g x)) (filter p xs)
  sum-put_filtered f xs o = omega (arith, sum-put_changed f xs o, sum_over-passing p f xs, sum_over-passing p (λ x. f (g x)) xs, shared xs)
    where
      one : (b : Bool) (x : X) → f (cond b (g x) x) + cond b (f x) 0 ≡ f x + cond b (f (g x)) 0
      one true x = omega arith
      one false x = refl

      shared : (xs : List X) → sum_over (λ x. f (changed p g x)) xs + sum_over (λ x. cond (p x) (f x) 0) xs ≡ sum_over f xs + sum_over (λ x. cond (p x) (f (g x)) 0) xs
      shared [] = refl
      shared (x ∷ xs) = omega (arith, one (p x) x, shared xs)

  -- a look-up in the changed table
  pub row_at-changed : (xs : List X) (k : K) → row_at R key (map (changed p g) xs) k ≡ option_map (changed p g) (row_at R key xs k)
  unfolding row_at
  row_at-changed [] k = refl
  row_at-changed (x ∷ xs) k =
      let same : (b : Bool) → key (cond b (g x) x) ≡ key x = λ b. elim b as (λ b. key (cond b (g x) x) ≡ key x) [ true ↦ keeps x | false ↦ refl ] in
      ap (λ q. by_order (R k q) None (Some (changed p g x)) (row_at R key (map (changed p g) xs) k)) (same (p x))
      ∙ elim (R k (key x)) as (λ o. by_order o None (Some (changed p g x)) (row_at R key (map (changed p g) xs) k) ≡ option_map (changed p g) (by_order o None (Some x) (row_at R key xs k))) [ Less ↦ refl | Equal ↦ refl | Greater ↦ row_at-changed xs k ]
