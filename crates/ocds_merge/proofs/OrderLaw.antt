-- The order of the releases: no later date before an earlier one, and releases of one date in their previous order.
use Rattle.ocds_merge.proofs.Names.{◌≡◌, ℕ, List, [], ◌∷◌, filter, map, Bool, true, false, cond, Ordering, Less, Equal, Greater, refl, sym, ap, ◌∙◌, true≢false, match_ordering, is_lt, ordering_reverse, bytes_eq-Decides, nat_list_cmp_total, tied_itself, Data, merge_or_null, date_of, insert_by_date, date_order, last_date, body_of, with_head, compiled_release, IsInDateOrder, is_dated}
use Rattle.ocds_merge.proofs.MemberLemmas.{bytes_cmp}

abbrev date_cmp : Data → Data → Ordering
date_cmp d e = bytes_cmp (date_of d) (date_of e)

-- ---- a list in order stays

not_less : {A : Type 0} (o : Ordering) (a b : A) → is_lt o ≡ false → match_ordering o a b b ≡ b
not_less Less a b e = absurd (true≢false e)
not_less Equal a b e = refl
not_less Greater a b e = refl

head_stays : (d : Data) (ds : List Data) → IsInDateOrder (d ∷ ds) → insert_by_date d ds ≡ d ∷ ds
head_stays d [] h = refl
head_stays d (e ∷ es) h = not_less _ _ _ h.0

pub tail_ordered : (d : Data) (ds : List Data) → IsInDateOrder (d ∷ ds) → IsInDateOrder ds
tail_ordered d [] h = tt
tail_ordered d (e ∷ es) h = h.1

pub order_stays : (ds : List Data) → IsInDateOrder ds → date_order ds ≡ ds
order_stays [] h = refl
order_stays (d ∷ ds) h = ap (insert_by_date d) (order_stays ds (tail_ordered d ds h)) ∙ head_stays d ds h

pub kept_tree_compiles : (ocid : List ℕ) (ds : List Data) → IsInDateOrder ds → compiled_release ocid ds ≡ with_head ocid (last_date ds) (merge_or_null (map body_of ds))
kept_tree_compiles ocid ds h = ap (λ (xs : List Data). with_head ocid (last_date xs) (merge_or_null (map body_of xs))) (order_stays ds h)

-- ---- an inserted release keeps the order

abbrev Follows : Data → List Data → Type 0
Follows e [] = Unit {0}
Follows e (x ∷ xs) = is_lt (date_cmp x e) ≡ false

cons_ordered : (e : Data) (xs : List Data) → Follows e xs → IsInDateOrder xs → IsInDateOrder (e ∷ xs)
cons_ordered e [] f h = tt
cons_ordered e (x ∷ xs) f h = (f, h)

follows_of : (e : Data) (xs : List Data) → IsInDateOrder (e ∷ xs) → Follows e xs
follows_of e [] h = tt
follows_of e (x ∷ xs) h = h.0

flipped_less : (o : Ordering) → is_lt o ≡ true → is_lt (ordering_reverse o) ≡ false
flipped_less Less h = refl
flipped_less Equal h = refl
flipped_less Greater h = absurd (true≢false (sym h))

not_before : (e d : Data) (o : Ordering) → date_cmp e d ≡ o → is_lt o ≡ true → is_lt (date_cmp d e) ≡ false
not_before e d o is h = rw (nat_list_cmp_total.antisymm (date_of d) (date_of e), is) (flipped_less o h)

follows_at : (o : Ordering) (e d x : Data) (xs ys : List Data) → Follows e (x ∷ xs) → is_lt (date_cmp d e) ≡ false → Follows e (match_ordering o (x ∷ ys) (d ∷ x ∷ xs) (d ∷ x ∷ xs))
follows_at Less e d x xs ys f h = f
follows_at Equal e d x xs ys f h = h
follows_at Greater e d x xs ys f h = h

insert_follows : (e d : Data) (xs : List Data) → Follows e xs → is_lt (date_cmp d e) ≡ false → Follows e (insert_by_date d xs)
insert_follows e d [] f h = h
insert_follows e d (x ∷ xs) f h = follows_at (date_cmp x d) e d x xs (insert_by_date d xs) f h

ordered_at : (o : Ordering) (d e : Data) (es : List Data) → date_cmp e d ≡ o → IsInDateOrder (e ∷ es) → IsInDateOrder (insert_by_date d es)
    → IsInDateOrder (match_ordering o (e ∷ insert_by_date d es) (d ∷ e ∷ es) (d ∷ e ∷ es))
ordered_at Less d e es is h later = cons_ordered e (insert_by_date d es) (insert_follows e d es (follows_of e es h) (not_before e d Less is refl)) later
ordered_at Equal d e es is h later = (ap is_lt is, h)
ordered_at Greater d e es is h later = (ap is_lt is, h)

insert_ordered : (d : Data) (es : List Data) → IsInDateOrder es → IsInDateOrder (insert_by_date d es)
insert_ordered d [] h = tt
insert_ordered d (e ∷ es) h = ordered_at _ d e es refl h (insert_ordered d es (tail_ordered e es h))

pub ordered : (rs : List Data) → IsInDateOrder (date_order rs)
ordered [] = tt
ordered (d ∷ ds) = insert_ordered d (date_order ds) (ordered ds)

-- ---- releases of one date

same_date : (t : List ℕ) (d e : Data) → is_dated t e ≡ true → is_dated t d ≡ true → date_cmp e d ≡ Equal
same_date t d e he hd =
    let same : date_of e ≡ date_of d = (bytes_eq-Decides (date_of e) t).0 he ∙ sym ((bytes_eq-Decides (date_of d) t).0 hd) in
    ap (λ (x : List ℕ). bytes_cmp x (date_of d)) same ∙ tied_itself nat_list_cmp_total (date_of d)

less_apart : (o : Ordering) → o ≡ Equal → is_lt o ≡ true → ⊥
less_apart Less e h = true≢false (ap is_lt e)
less_apart Equal e h = true≢false (sym h)
less_apart Greater e h = true≢false (sym h)

stable_less : (be bd : Bool) (t : List ℕ) (d e : Data) (es : List Data) → date_cmp e d ≡ Less → is_dated t e ≡ be → is_dated t d ≡ bd
    → filter (is_dated t) (insert_by_date d es) ≡ filter (is_dated t) (d ∷ es) → filter (is_dated t) (e ∷ insert_by_date d es) ≡ filter (is_dated t) (d ∷ e ∷ es)
stable_less true true t d e es is he hd later = absurd (less_apart (date_cmp e d) (same_date t d e he hd) (ap is_lt is))
stable_less true false t d e es is he hd later = rw (later, he, hd) refl
stable_less false true t d e es is he hd later = rw (later, he, hd) refl
stable_less false false t d e es is he hd later = rw (later, he, hd) refl

stable_at : (o : Ordering) (t : List ℕ) (d e : Data) (es : List Data) → date_cmp e d ≡ o → filter (is_dated t) (insert_by_date d es) ≡ filter (is_dated t) (d ∷ es)
    → filter (is_dated t) (match_ordering o (e ∷ insert_by_date d es) (d ∷ e ∷ es) (d ∷ e ∷ es)) ≡ filter (is_dated t) (d ∷ e ∷ es)
stable_at Less t d e es is later = stable_less _ _ t d e es is refl refl later
stable_at Equal t d e es is later = refl
stable_at Greater t d e es is later = refl

insert_stable : (t : List ℕ) (d : Data) (es : List Data) → filter (is_dated t) (insert_by_date d es) ≡ filter (is_dated t) (d ∷ es)
insert_stable t d [] = refl
insert_stable t d (e ∷ es) = stable_at _ t d e es refl (insert_stable t d es)

filter_cons : (t : List ℕ) (d : Data) (xs ys : List Data) → filter (is_dated t) xs ≡ filter (is_dated t) ys → filter (is_dated t) (d ∷ xs) ≡ filter (is_dated t) (d ∷ ys)
filter_cons t d xs ys h = ap (λ (zs : List Data). cond (is_dated t d) (d ∷ zs) zs) h

pub stable : (rs : List Data) (t : List ℕ) → filter (is_dated t) (date_order rs) ≡ filter (is_dated t) rs
stable [] t = refl
stable (d ∷ ds) t = insert_stable t d (date_order ds) ∙ filter_cons t d (date_order ds) ds (stable ds t)
