-- One level of a left join: the rows of a table that pass, or one row of NULLs.
use Rattle.office_ledger.proofs.Names.{◌≡◌, Bool, true, false, cond, List, [], ◌∷◌, flat_map, filter, Option, Some, None, refl, sym, ap, ◌∙◌, arith, append-nil, IsPermutation, IsPermutation-refl, IsPermutation-trans, IsPermutation-append, IsPermutation-map, length_permutation, flat_map-map, IsPermutation-same, IsPermutation-filter, IsPermutation-flat_map, Row, or_nulls, or_none, Paired, Show}

or_none_same : {X : Type 0} (xs ys : List X) → IsPermutation xs ys → IsPermutation (or_none xs) (or_none ys)
or_none_same [] [] same = IsPermutation-refl _
or_none_same [] (y ∷ ys) same = absurd (omega (arith, length_permutation _ _ same))
or_none_same (x ∷ xs) [] same = absurd (omega (arith, length_permutation _ _ same))
or_none_same (x ∷ xs) (y ∷ ys) same = IsPermutation-map Some (x ∷ xs) (y ∷ ys) same

module _ {X : Type 0} (cells : Row → X → Type 0) where
  paired-filter : (test : Row → Bool) (p : X → Bool) → ((r : Row) (x : X) → cells r x → test r ≡ p x) → (rows : List Row) (xs : List X) → Paired cells rows xs
      → Paired cells (filter test rows) (filter p xs)
  paired-filter test p same [] [] h = tt
  paired-filter test p same [] (x ∷ xs) h = absurd h
  paired-filter test p same (r ∷ rows) [] h = absurd h
  paired-filter test p same (r ∷ rows) (x ∷ xs) h =
      let more = paired-filter test p same rows xs h.1 in
      rw (same r x h.0) (elim (p x) as (λ b. Paired cells (cond b (r ∷ filter test rows) (filter test rows)) (cond b (x ∷ filter p xs) (filter p xs))) [ true ↦ (h.0, more) | false ↦ more ])

  module _ {Z : Type 0} (f : Row → List Z) where
    each_paired : (g : X → List Z) → ((r : Row) (x : X) → cells r x → IsPermutation (f r) (g x)) → (rows : List Row) (xs : List X) → Paired cells rows xs
        → IsPermutation (flat_map f rows) (flat_map g xs)
    each_paired g each [] [] h = IsPermutation-refl []
    each_paired g each [] (x ∷ xs) h = absurd h
    each_paired g each (r ∷ rows) [] h = absurd h
    each_paired g each (r ∷ rows) (x ∷ xs) h = IsPermutation-append _ _ _ _ (each r x h.0) (each_paired g each rows xs h.1)

    -- all rows of the first table
    pub first_level : (g : X → List Z) → ((r : Row) (x : X) → cells r x → IsPermutation (f r) (g x)) → (rows : List Row) (xs : List X) → Show cells rows xs
        → IsPermutation (flat_map f rows) (flat_map g xs)
    first_level g each rows xs show = IsPermutation-trans _ _ _ (each_paired g each rows show.stored show.paired) (IsPermutation-flat_map g show.stored xs show.same)

    nulls_paired : (g : Option X → List Z) → ((r : Row) (x : X) → cells r x → IsPermutation (f r) (g (Some x))) → IsPermutation (f []) (g None)
        → (rows : List Row) (xs : List X) → Paired cells rows xs → IsPermutation (flat_map f (or_nulls rows)) (flat_map g (or_none xs))
    nulls_paired g each none [] [] h = IsPermutation-append _ _ _ _ none (IsPermutation-refl [])
    nulls_paired g each none [] (x ∷ xs) h = absurd h
    nulls_paired g each none (r ∷ rows) [] h = absurd h
    nulls_paired g each none (r ∷ rows) (x ∷ xs) h =
        IsPermutation-trans _ _ _ (each_paired (λ x. g (Some x)) each (r ∷ rows) (x ∷ xs) h) (IsPermutation-same _ _ (sym (flat_map-map g Some (x ∷ xs))))

    -- the rows that pass, or NULLs
    pub level : (test : Row → Bool) (p : X → Bool) (g : Option X → List Z) → ((r : Row) (x : X) → cells r x → test r ≡ p x)
        → ((r : Row) (x : X) → cells r x → IsPermutation (f r) (g (Some x))) → IsPermutation (f []) (g None) → (rows : List Row) (xs : List X) → Show cells rows xs
        → IsPermutation (flat_map f (or_nulls (filter test rows))) (flat_map g (or_none (filter p xs)))
    level test p g same each none rows xs show = IsPermutation-trans _ _ _
        (nulls_paired g each none (filter test rows) (filter p show.stored) (paired-filter test p same rows show.stored show.paired))
        (IsPermutation-flat_map g _ _ (or_none_same _ _ (IsPermutation-filter p show.stored xs show.same)))

    -- no row passes
    pub no_level : (test : Row → Bool) → ((r : Row) (x : X) → cells r x → test r ≡ false) → (rows : List Row) (xs : List X) → Show cells rows xs
        → flat_map f (or_nulls (filter test rows)) ≡ f []
    no_level test never rows xs show = ap (λ l. flat_map f (or_nulls l)) (none rows show.stored show.paired) ∙ append-nil (f [])
      where
        none : (rows : List Row) (ys : List X) → Paired cells rows ys → filter test rows ≡ []
        none [] ys h = refl
        none (r ∷ rows) [] h = absurd h
        none (r ∷ rows) (y ∷ ys) h = ap (λ b. cond b (r ∷ filter test rows) (filter test rows)) (never r y h.0) ∙ none rows ys h.1
