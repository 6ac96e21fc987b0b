-- If each number is found, the keys of rows in order are these numbers.
use Rattle.office_machine.proofs.Names.{◌≡◌, ℕ, zero, suc, ◌+◌, ◌≤◌, ◌<◌, ◌⊎◌, true, false, List, [], ◌∷◌, map, Some, None, is_some, refl, sym, ap, ◌∙◌, inl, inr, arith, nat_cmp_total, nat_cmp_is, nat_cmp, Less, Equal, Greater, by_order, row_at, IsInOrder, numbers, same_key, none_below, above, tied}

module _ {X : Type 0} (key : X → ℕ) where
  -- each of the `n` numbers from `from` on is found, and no other
  pub record FindsAll (from n : ℕ) (xs : List X) : Type 0 where
    pub here : (q : ℕ) → from ≤ q → q < from + n → is_some (row_at nat_cmp key xs q) ≡ true
    pub nowhere : (q : ℕ) (x : X) → row_at nat_cmp key xs q ≡ Some x → (from ≤ q) × (q < from + n)

  first_found : (x : X) (xs : List X) → row_at nat_cmp key (x ∷ xs) (key x) ≡ Some x
  unfolding row_at
  first_found x xs = ap (λ c. by_order c None (Some x) (row_at nat_cmp key xs (key x))) (same_key nat_cmp_total (key x))

  before_first : (x : X) (xs : List X) (q : ℕ) → nat_cmp q (key x) ≡ Less → row_at nat_cmp key (x ∷ xs) q ≡ None
  unfolding row_at
  before_first x xs q e = ap (λ c. by_order c None (Some x) (row_at nat_cmp key xs q)) e

  after_first : (x : X) (xs : List X) (q : ℕ) → nat_cmp q (key x) ≡ Greater → row_at nat_cmp key (x ∷ xs) q ≡ row_at nat_cmp key xs q
  unfolding row_at
  after_first x xs q e = ap (λ c. by_order c None (Some x) (row_at nat_cmp key xs q)) e

  nothing_found : (q : ℕ) → row_at nat_cmp key [] q ≡ None
  unfolding row_at
  nothing_found q = refl

  less : (a b : ℕ) → a < b → nat_cmp a b ≡ Less
  less a b h = sym (nat_cmp_is a b Less h)

  equal : (a b : ℕ) → a ≡ b → nat_cmp a b ≡ Equal
  equal a b h = sym (nat_cmp_is a b Equal h)

  greater : (a b : ℕ) → b < a → nat_cmp a b ≡ Greater
  greater a b h = sym (nat_cmp_is a b Greater h)

  three : (a b : ℕ) → (a < b) ⊎ ((a ≡ b) ⊎ (b < a))
  three a b = grind arith

  first_is : (from n : ℕ) (x : X) (xs : List X) → FindsAll from (suc n) (x ∷ xs) → key x ≡ from
  first_is from n x xs finds = by (three from (key x))
    where
      by : (from < key x) ⊎ ((from ≡ key x) ⊎ (key x < from)) → key x ≡ from
      by (inl below) =
          let here = finds.here from (omega arith) (omega arith) in
          let no : false ≡ true = sym (ap is_some (before_first x xs from (less from (key x) below))) ∙ here in cc
      by (inr (inl same)) = sym same
      by (inr (inr above)) = let at = finds.nowhere (key x) x (first_found x xs) in absurd (omega (arith, at.0, above))

  rest_finds : (from n : ℕ) (x : X) (xs : List X) → IsInOrder nat_cmp key (x ∷ xs) → FindsAll from (suc n) (x ∷ xs) → key x ≡ from
      → FindsAll (from + 1) n xs
  rest_finds from n x xs order finds first = record {
    here = λ q low high.
        sym (ap is_some (after_first x xs q (greater q (key x) (omega (arith, first, low))))) ∙ finds.here q (omega (arith, low)) (omega (arith, high));
    nowhere = λ q y found. by q y found (three q (key x));
  }
    where
      by : (q : ℕ) (y : X) → row_at nat_cmp key xs q ≡ Some y → (q < key x) ⊎ ((q ≡ key x) ⊎ (key x < q)) → (from + 1 ≤ q) × (q < from + 1 + n)
      by q y found (inl below) =
          let none = none_below nat_cmp key q xs (above nat_cmp_total key q (key x) xs (less q (key x) below) order.0) in
          let no : None ≡ Some y = sym none ∙ found in absurd cc
      by q y found (inr (inl same)) =
          let none = none_below nat_cmp key q xs (tied nat_cmp_total key q (key x) xs (equal q (key x) same) order.0) in
          let no : None ≡ Some y = sym none ∙ found in absurd cc
      by q y found (inr (inr above)) =
          let at = finds.nowhere q y (after_first x xs q (greater q (key x) above) ∙ found) in
          (omega (arith, first, above), omega (arith, at.1))

  pub keys_are : (n from : ℕ) (xs : List X) → IsInOrder nat_cmp key xs → FindsAll from n xs → map key xs ≡ numbers from n
  keys_are zero from [] order finds = refl
  keys_are zero from (x ∷ xs) order finds = let at = finds.nowhere (key x) x (first_found x xs) in absurd (omega (arith, at.0, at.1))
  keys_are (suc n) from [] order finds =
      let here = finds.here from (omega arith) (omega arith) in
      let no : false ≡ true = sym (ap is_some (nothing_found from)) ∙ here in cc
  keys_are (suc n) from (x ∷ xs) order finds =
      let first = first_is from n x xs finds in
      ap (λ k. k ∷ map key xs) first ∙ ap (λ ks. from ∷ ks) (keys_are n (from + 1) xs order.1 (rest_finds from n x xs order finds first))
