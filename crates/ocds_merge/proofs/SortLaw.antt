-- A stable sort by dates gives the order of the releases: only one list is in order and has the same releases of each date.
use Rattle.ocds_merge.proofs.Names.{◌≡◌, ◌+◌, ℕ, suc, List, [], ◌∷◌, map, filter, get_or, Bool, true, false, cond, not, ◌&&◌, Ordering, Less, Equal, Greater, ◌⊎◌, inl, inr, refl, sym, ap, ◌∙◌, subst, arith, true≢false, IsStrictWeakOrder, is_lt, is_eq, ordering_reverse, IsSortedBy, IsStableBy, ties, cond-true, cond-false, cases_Bool, nat_list_cmp_total, tied_itself, is_eq-slice_cmp, ranks_by, exact_bytes, bytes_eq-Decides, Data, date_of, date_order, IsInDateOrder, is_dated}
use Rattle.ocds_merge.proofs.MemberLemmas.{bytes_cmp}
use Rattle.ocds_merge.proofs.OrderLaw.{tail_ordered, ordered, stable}

-- ---- dates

dates_rank : IsStrictWeakOrder (λ (x y : List ℕ). is_lt (bytes_cmp x y))
dates_rank = ranks_by nat_list_cmp_total (λ x. x)

tied_at : (o : Ordering) → is_lt o ≡ false → is_lt (ordering_reverse o) ≡ false → o ≡ Equal
tied_at Less h g = absurd (true≢false h)
tied_at Equal h g = refl
tied_at Greater h g = absurd (true≢false g)

neither_earlier : (x y : List ℕ) → is_lt (bytes_cmp x y) ≡ false → is_lt (bytes_cmp y x) ≡ false → x ≡ y
neither_earlier x y h g = exact_bytes x y (tied_at (bytes_cmp x y) h (ap is_lt (sym (nat_list_cmp_total.antisymm y x)) ∙ g))

kept : (t : List ℕ) (d : Data) (ds : List Data) → is_dated t d ≡ true → filter (is_dated t) (d ∷ ds) ≡ d ∷ filter (is_dated t) ds
kept t d ds h = cond-true _ _ _ h

left_out : (t : List ℕ) (d : Data) (ds : List Data) → is_dated t d ≡ false → filter (is_dated t) (d ∷ ds) ≡ filter (is_dated t) ds
left_out t d ds h = cond-false _ _ _ h

own_date : (d : Data) → is_dated (date_of d) d ≡ true
own_date d = (bytes_eq-Decides (date_of d) (date_of d)).1 refl

-- ---- only one list is in order and has these releases of each date

abbrev NoneEarlier : List ℕ → List Data → Type 0
NoneEarlier t [] = Unit {0}
NoneEarlier t (d ∷ ds) = (is_lt (bytes_cmp (date_of d) t) ≡ false) × NoneEarlier t ds

none_earlier_yet : (s t : List ℕ) (ds : List Data) → is_lt (bytes_cmp t s) ≡ false → NoneEarlier t ds → NoneEarlier s ds
none_earlier_yet s t [] h all = tt
none_earlier_yet s t (d ∷ ds) h all = (dates_rank.chain (date_of d) t s all.0 h, none_earlier_yet s t ds h all.1)

rest_later : (d : Data) (ds : List Data) → IsInDateOrder (d ∷ ds) → NoneEarlier (date_of d) ds
rest_later d [] h = tt
rest_later d (e ∷ es) h = (h.0, none_earlier_yet (date_of d) (date_of e) es h.0 (rest_later e es h.1))

all_later : (d : Data) (ds : List Data) → IsInDateOrder (d ∷ ds) → NoneEarlier (date_of d) (d ∷ ds)
all_later d ds h = (ap is_lt (tied_itself nat_list_cmp_total (date_of d)), rest_later d ds h)

-- t is the date of one of them
found_late : (s t : List ℕ) (ds : List Data) (w : Data) (ws : List Data) → NoneEarlier s ds → filter (is_dated t) ds ≡ w ∷ ws → is_lt (bytes_cmp t s) ≡ false
found_late s t [] w ws all e = cc
found_late s t (d ∷ ds) w ws all e =
    elim (cases_Bool (is_dated t d)) [
      | inl with ↦ subst (λ (x : List ℕ). is_lt (bytes_cmp x s) ≡ false) ((bytes_eq-Decides (date_of d) t).0 with) all.0
      | inr without ↦ found_late s t ds w ws all.1 (sym (left_out t d ds without) ∙ e)
    ]

only_order : (xs ys : List Data) → IsInDateOrder xs → IsInDateOrder ys → ((t : List ℕ) → filter (is_dated t) xs ≡ filter (is_dated t) ys) → xs ≡ ys
only_order [] [] left right same = refl
only_order [] (e ∷ es) left right same = let clash = same (date_of e) ∙ kept (date_of e) e es (own_date e) in cc
only_order (d ∷ ds) [] left right same = let clash = sym (same (date_of d)) ∙ kept (date_of d) d ds (own_date d) in cc
only_order (d ∷ ds) (e ∷ es) left right same =
    let at_d = kept (date_of d) d ds (own_date d) in
    let at_e = kept (date_of e) e es (own_date e) in
    let no_earlier = found_late (date_of e) (date_of d) (e ∷ es) d _ (all_later e es right) (sym (same (date_of d)) ∙ at_d) in
    let no_later = found_late (date_of d) (date_of e) (d ∷ ds) e _ (all_later d ds left) (same (date_of e) ∙ at_e) in
    let date : date_of d ≡ date_of e = neither_earlier (date_of d) (date_of e) no_earlier no_later in
    let heads = sym at_d ∙ same (date_of d) ∙ kept (date_of d) e es (subst (λ (t : List ℕ). is_dated t e ≡ true) (sym date) (own_date e)) in
    let head : d ≡ e = cc in
    let tails : (t : List ℕ) → filter (is_dated t) ds ≡ filter (is_dated t) es =
    λ t. elim (cases_Bool (is_dated t d)) [
      | inl with ↦ let both = sym (kept t d ds with) ∙ same t ∙ kept t e es (ap (is_dated t) (sym head) ∙ with) in cc
      | inr without ↦ sym (left_out t d ds without) ∙ same t ∙ left_out t e es (ap (is_dated t) (sym head) ∙ without)
    ] in
    ap (λ (w : Data). w ∷ ds) head ∙ ap (λ (l : List Data). e ∷ l) (only_order ds es (tail_ordered d ds left) (tail_ordered e es right) tails)

-- ---- the result of a stable sort

module _ {A : Type 0} (seen : A → Data) where
  abbrev pub earlier : A → A → Bool
  earlier a b = is_lt (bytes_cmp (date_of (seen a)) (date_of (seen b)))

  pub ranked : IsStrictWeakOrder earlier
  ranked = ranks_by nat_list_cmp_total (λ a. date_of (seen a))

  in_order : (xs : List A) → IsSortedBy earlier xs → IsInDateOrder (map seen xs)
  in_order [] up = tt
  in_order (x ∷ []) up = tt
  in_order (x ∷ y ∷ ys) up =
      let later : IsSortedBy earlier (y ∷ ys) =
      λ k d low high.
      let next : suc k + 1 ≡ suc (k + 1) = omega arith in
      subst (λ (n : ℕ). earlier (get_or (x ∷ y ∷ ys) n d) (get_or (y ∷ ys) k d) ≡ false) next (up (suc k) d (omega arith) (omega arith)) in
      (up 0 x (omega arith) (omega arith), in_order (y ∷ ys) later)

  ties_at : (o : Ordering) → is_eq o ≡ (not (is_lt o) && not (is_lt (ordering_reverse o)))
  ties_at Less = refl
  ties_at Equal = refl
  ties_at Greater = refl

  flipped : (o : Ordering) → is_eq (ordering_reverse o) ≡ is_eq o
  flipped Less = refl
  flipped Equal = refl
  flipped Greater = refl

  as_ties : (a b : A) → is_dated (date_of (seen a)) (seen b) ≡ ties earlier a b
  as_ties a b =
      let x = date_of (seen a) in
      let y = date_of (seen b) in
      let same : is_dated x (seen b) ≡ is_eq (bytes_cmp y x) = sym (is_eq-slice_cmp y x) in
      same ∙ ap is_eq (nat_list_cmp_total.antisymm y x) ∙ flipped (bytes_cmp x y) ∙ ties_at (bytes_cmp x y)
      ∙ ap (λ (o : Ordering). not (is_lt (bytes_cmp x y)) && not (is_lt o)) (sym (nat_list_cmp_total.antisymm y x))

  seen_at : (b : Bool) (x : A) (p : List Data) (q : List A) → p ≡ map seen q → cond b (seen x ∷ p) p ≡ map seen (cond b (x ∷ q) q)
  seen_at true x p q h = ap (λ (r : List Data). seen x ∷ r) h
  seen_at false x p q h = h

  filter_seen : (p : Data → Bool) (q : A → Bool) → ((a : A) → p (seen a) ≡ q a) → (xs : List A) → filter p (map seen xs) ≡ map seen (filter q xs)
  filter_seen p q same [] = refl
  filter_seen p q same (x ∷ xs) =
      ap (λ (b : Bool). cond b (seen x ∷ filter p (map seen xs)) (filter p (map seen xs))) (same x)
      ∙ seen_at (q x) x (filter p (map seen xs)) (filter q xs) (filter_seen p q same xs)

  -- a release of this date among them, if there is one
  one_dated : (t : List ℕ) (xs : List A) → ((a : A) × (is_dated t (seen a) ≡ true)) ⊎ (filter (is_dated t) (map seen xs) ≡ [])
  one_dated t [] = inr refl
  one_dated t (x ∷ xs) =
      elim (cases_Bool (is_dated t (seen x))) [
        | inl with ↦ inl (x, with)
        | inr without ↦ elim (one_dated t xs) [ inl found ↦ inl found | inr none ↦ inr (left_out t (seen x) (map seen xs) without ∙ none) ]
      ]

  dates_stay : (xs ys : List A) → IsStableBy earlier xs ys → (t : List ℕ) → filter (is_dated t) (map seen ys) ≡ filter (is_dated t) (map seen xs)
  dates_stay xs ys stay t =
      let at : (found : (a : A) × (is_dated t (seen a) ≡ true)) → filter (is_dated t) (map seen ys) ≡ filter (is_dated t) (map seen xs) =
      λ found.
      let a = found.0 in
      let s = date_of (seen a) in
      subst (λ (x : List ℕ). filter (is_dated x) (map seen ys) ≡ filter (is_dated x) (map seen xs)) ((bytes_eq-Decides s t).0 found.1)
      (filter_seen (is_dated s) (ties earlier a) (as_ties a) ys ∙ ap (map seen) (stay a) ∙ sym (filter_seen (is_dated s) (ties earlier a) (as_ties a) xs)) in
      elim (one_dated t ys) [
        | inl found ↦ at found
        | inr none ↦ elim (one_dated t xs) [ inl found ↦ at found | inr neither ↦ none ∙ sym neither ]
      ]

  pub sorted_is_order : (xs ys : List A) → IsSortedBy earlier ys → IsStableBy earlier xs ys → map seen ys ≡ date_order (map seen xs)
  sorted_is_order xs ys up stay =
      only_order (map seen ys) (date_order (map seen xs)) (in_order ys up) (ordered (map seen xs)) (λ t. dates_stay xs ys stay t ∙ sym (stable (map seen xs) t))
