-- A table that is read page by page is read completely, each row once.
use Rattle.office_base.proofs.Names.{◌≡◌, ◌≤◌, ◌<◌, ◌+◌, ◌-◌, ℕ, zero, suc, Bool, true, false, cond, nat_lt, List, [], ◌∷◌, ◌++◌, length, take, drop, filter, slice_get, Option, Some, None, option_map, inl, inr, refl, sym, ap, subst, ◌∙◌, arith, cases_Bool, ltb-true, ltb-false, append-nil, take_all, take-append-drop, length-take, length-drop, nil_from_length, slice_get_cases, IsTotalOrder, nat_list_cmp_total, is_lt, ordering_reverse, Ordering, Less, Equal, Greater, AllByRecursion, StartsAbove, IsInOrder, notice_key, tenderer_key, is_after, rows_after, next_after, followed, read_pages, PagesAreAll, TablesArePaged}
use Rattle.office_base.proofs.Orders.{same_key}

lt_is : (c : Ordering) → c ≡ Less → is_lt c ≡ true
lt_is c e = ap is_lt e

is_less : (c : Ordering) → is_lt c ≡ true → c ≡ Less
is_less Less e = refl
is_less Equal e = cc
is_less Greater e = cc

module _ {K X : Type 0} {R : K → K → Ordering} (o : IsTotalOrder R) (key : X → K) where
  abbrev Above : K → List X → Type 0
  Above k xs = AllByRecursion (λ x. R k (key x) ≡ Less) xs

  -- if the first row has a key above this one, so have all rows
  above : (k : K) (xs : List X) → StartsAbove R key k xs → IsInOrder R key xs → Above k xs
  above k [] s h = tt
  above k (x ∷ xs) s h = (s, above k xs (from xs h.0) h.1)
    where
      from : (ys : List X) → StartsAbove R key (key x) ys → StartsAbove R key k ys
      from [] t = tt
      from (y ∷ ys) t = o.trans k (key x) (key y) s t

  -- all rows above a key come after it
  all_behind : (k : K) (xs : List X) → Above k xs → filter (λ x. is_after R (Some k) (key x)) xs ≡ xs
  all_behind k [] a = refl
  all_behind k (x ∷ xs) a = ap (λ b. cond b (x ∷ filter (λ x. is_after R (Some k) (key x)) xs) (filter (λ x. is_after R (Some k) (key x)) xs)) (lt_is (R k (key x)) a.0) ∙ ap (λ ys. x ∷ ys) (all_behind k xs a.1)

  -- if a key comes after another one, every key above it does too
  behind_too : (after : Option K) (k q : K) → is_after R after k ≡ true → R k q ≡ Less → is_after R after q ≡ true
  behind_too None k q e l = refl
  behind_too (Some a) k q e l = lt_is (R a q) (o.trans a k q (is_less (R a k) e) l)

  all_too : (after : Option K) (k : K) (xs : List X) → is_after R after k ≡ true → Above k xs → filter (λ x. is_after R after (key x)) xs ≡ xs
  all_too after k [] e a = refl
  all_too after k (x ∷ xs) e a =
      ap (λ b. cond b (x ∷ filter (λ x. is_after R after (key x)) xs) (filter (λ x. is_after R after (key x)) xs)) (behind_too after k (key x) e a.0)
      ∙ ap (λ ys. x ∷ ys) (all_too after k xs e a.1)

  before_not : (k q : K) → R q k ≡ Less → is_after R (Some k) q ≡ false
  before_not k q l = ap is_lt (o.antisymm k q ∙ ap ordering_reverse l)

  itself_not : (k : K) → is_after R (Some k) k ≡ false
  itself_not k = ap is_lt (same_key o k)

  -- each row of a list whose rows are above a key is above it
  found_above : (k : K) (xs : List X) (i : ℕ) (x : X) → Above k xs → slice_get xs i ≡ Some x → R k (key x) ≡ Less
  found_above k [] i x a h = absurd (cc)
  found_above k (y ∷ ys) zero x a h = let same : y ≡ x = cc in subst (λ z. R k (key z) ≡ Less) same a.0
  found_above k (y ∷ ys) (suc i) x a h = found_above k ys i x a.1 h

  above_filter : (p : X → Bool) (k : K) (xs : List X) → Above k xs → Above k (filter p xs)
  above_filter p k [] a = tt
  above_filter p k (x ∷ xs) a = elim (p x) as (λ b. Above k (cond b (x ∷ filter p xs) (filter p xs))) [ true ↦ (a.0, above_filter p k xs a.1) | false ↦ above_filter p k xs a.1 ]

  abbrev kept_of : Option K → List X → List X
  kept_of after ys = filter (λ z. is_after R after (key z)) ys

  -- the rows after row i are those that follow it in the list
  pub behind_row : (after : Option K) (xs : List X) → IsInOrder R key xs → (i : ℕ) (x : X) → slice_get (rows_after R key after xs) i ≡ Some x
      → rows_after R key (Some (key x)) xs ≡ drop (suc i) (rows_after R key after xs)
  behind_row after [] h i x at = absurd (cc)
  behind_row after (y ∷ ys) h i x at = by (λ j there. behind_row after ys h.1 j x there) (is_after R after (key y)) refl i at
    where
      up : Above (key y) ys
      up = above (key y) ys h.0 h.1

      -- the first row doesn't come after a row that follows it
      passed : (i : ℕ) → slice_get (kept_of after ys) i ≡ Some x → rows_after R key (Some (key x)) (y ∷ ys) ≡ rows_after R key (Some (key x)) ys
      passed i there = ap (λ b. cond b (y ∷ rows_after R key (Some (key x)) ys) (rows_after R key (Some (key x)) ys))
          (before_not (key x) (key y) (found_above (key y) (kept_of after ys) i x (above_filter (λ z. is_after R after (key z)) (key y) ys up) there))

      first : is_after R after (key y) ≡ true → y ≡ x → rows_after R key (Some (key x)) (y ∷ ys) ≡ kept_of after ys
      first e same =
          ap (λ z. rows_after R key (Some (key z)) (y ∷ ys)) (sym same)
          ∙ ap (λ b. cond b (y ∷ rows_after R key (Some (key y)) ys) (rows_after R key (Some (key y)) ys)) (itself_not (key y))
          ∙ all_behind (key y) ys up ∙ sym (all_too after (key y) ys e up)

      by : ((j : ℕ) → slice_get (kept_of after ys) j ≡ Some x → rows_after R key (Some (key x)) ys ≡ drop (suc j) (kept_of after ys))
          → (b : Bool) → is_after R after (key y) ≡ b → (i : ℕ) → slice_get (rows_after R key after (y ∷ ys)) i ≡ Some x
          → rows_after R key (Some (key x)) (y ∷ ys) ≡ drop (suc i) (rows_after R key after (y ∷ ys))
      by later true e zero there =
          let got : slice_get (y ∷ kept_of after ys) 0 ≡ Some x = subst (λ b. slice_get (cond b (y ∷ kept_of after ys) (kept_of after ys)) 0 ≡ Some x) e there in
          let same : y ≡ x = cc in
          first e same ∙ ap (λ b. drop 1 (cond b (y ∷ kept_of after ys) (kept_of after ys))) (sym e)
      by later true e (suc i) there =
          let got : slice_get (kept_of after ys) i ≡ Some x = subst (λ b. slice_get (cond b (y ∷ kept_of after ys) (kept_of after ys)) (suc i) ≡ Some x) e there in
          passed i got ∙ later i got ∙ ap (λ b. drop (suc (suc i)) (cond b (y ∷ kept_of after ys) (kept_of after ys))) (sym e)
      by later false e i there =
          let got : slice_get (kept_of after ys) i ≡ Some x = subst (λ b. slice_get (cond b (y ∷ kept_of after ys) (kept_of after ys)) i ≡ Some x) e there in
          passed i got ∙ later i got ∙ ap (λ b. drop (suc i) (cond b (y ∷ kept_of after ys) (kept_of after ys))) (sym e)

  taken : (xs : List X) (n i : ℕ) → i < n → slice_get (take n xs) i ≡ slice_get xs i
  taken xs zero i l = absurd (omega (arith, l))
  taken [] (suc n) i l = refl
  taken (x ∷ xs) (suc n) zero l = refl
  taken (x ∷ xs) (suc n) (suc i) l = taken xs n i (omega (arith, l))

  module _ (rows : List X) (in_order : IsInOrder R key rows) (most : ℕ) (some : 0 < most) where
    abbrev rest : Option K → List X
    rest after = rows_after R key after rows

    -- the last page: no page follows
    ends : (after : Option K) (go : K → List X) → nat_lt most (length (take (most + 1) (rest after))) ≡ false
        → take most (rest after) ++ followed (next_after key most (take (most + 1) (rest after))) go ≡ rest after
    ends after go e =
        ap (λ b. take most (rest after) ++ followed (cond b (option_map key (slice_get (take (most + 1) (rest after)) (most - 1))) None) go) e
        ∙ append-nil (take most (rest after))
        ∙ take_all most (rest after) (omega (arith, ltb-false most (length (take (most + 1) (rest after))) e, length-take (most + 1) (rest after)))

    -- a page that another one follows
    goes_on : (after : Option K) (go : K → List X) → nat_lt most (length (take (most + 1) (rest after))) ≡ true
        → ((k : K) → rest (Some k) ≡ drop most (rest after) → go k ≡ rest (Some k))
        → take most (rest after) ++ followed (next_after key most (take (most + 1) (rest after))) go ≡ rest after
    goes_on after go e on =
        ap (λ b. take most (rest after) ++ followed (cond b (option_map key (slice_get (take (most + 1) (rest after)) (most - 1))) None) go) e
        ∙ ap (λ r. take most (rest after) ++ followed (option_map key r) go) (taken (rest after) (most + 1) (most - 1) (omega (arith, some)))
        ∙ by (slice_get (rest after) (most - 1)) refl
      where
        enough : most < length (rest after)
        enough = omega (arith, ltb-true most (length (take (most + 1) (rest after))) e, length-take (most + 1) (rest after))

        by : (r : Option X) → slice_get (rest after) (most - 1) ≡ r → take most (rest after) ++ followed (option_map key r) go ≡ rest after
        by None none = absurd (elim (slice_get_cases (rest after) (most - 1)).1 as (λ _. ⊥) [
          | inl f ↦ (let n : ◌≡◌ {A = Option X} None (Some f.0) = sym none ∙ f.2 in absurd (cc))
          | inr past ↦ absurd (omega (arith, past.0, enough))
        ])
        by (Some x) at =
            let is : suc (most - 1) ≡ most = omega (arith, some) in
            let behind : rest (Some (key x)) ≡ drop most (rest after) = behind_row after rows in_order (most - 1) x at ∙ ap (λ n. drop n (rest after)) is in
            ap (λ l. take most (rest after) ++ l) (on (key x) behind ∙ behind) ∙ take-append-drop most (rest after)

    pub read_on : (more : ℕ) (after : Option K) → length (rest after) ≤ more → read_pages R key most more after rows ≡ rest after
    unfolding read_pages
    read_on zero after few = sym (nil_from_length (rest after) (omega (arith, few)))
    read_on (suc more) after few = elim (cases_Bool (nat_lt most (length (take (most + 1) (rest after))))) [
      | inl e ↦ goes_on after (λ k. read_pages R key most more (Some k) rows) e (λ k behind. read_on more (Some k) (omega (arith, few, some, ap length behind, length-drop most (rest after))))
      | inr e ↦ ends after (λ k. read_pages R key most more (Some k) rows) e
    ]

  all_rows : (rows : List X) → rows_after R key None rows ≡ rows
  all_rows [] = refl
  all_rows (x ∷ xs) = ap (λ ys. x ∷ ys) (all_rows xs)

  pub pages_are_all : (rows : List X) → IsInOrder R key rows → PagesAreAll R key rows
  pages_are_all rows in_order most more some few =
      read_on rows in_order most some more None (subst (λ xs. length xs ≤ more) (sym (all_rows rows)) few) ∙ all_rows rows

pub tables_are_paged : TablesArePaged
tables_are_paged t sorted = record {
  notices = pages_are_all nat_list_cmp_total notice_key t.notices sorted.notices;
  tenderers = pages_are_all nat_list_cmp_total tenderer_key t.tenderers sorted.tenderers;
}
