-- A merge nests no deeper than its values, and has a float only if one of them has.
use Rattle.ocds_merge.proofs.Names.{◌≡◌, ◌<◌, ◌≤◌, ℕ, zero, suc, max, List, All, [], ◌∷◌, ◌++◌, map, filter, reverse, Bool, true, false, cond, ◌||◌, Option, Some, None, option_to_list, unwrap_or, Ordering, Less, Equal, Greater, refl, sym, subst, arith, codes, match_ordering, reverse-append, le-max_left, le-max_right, max-le, Data, null, boolean, number, string, array, object, Items, no_items, item, Members, no_members, member, put, depth, items_depth, members_depth, get_member, items_of, has_float, items_have_float, members_have_float, is_id_list, object_run, id_list_run, column_at, items_ahead, items_in, ids_in, names_in, put_present, merge_names, merge_item, merge_items, merge_within, deepest_of, merge_of, merge_or_null, members_without, body_of, IsStorable, max_depth}
use Rattle.ocds_merge.proofs.MemberLemmas.{bytes_cmp}
use Rattle.ocds_merge.proofs.ObjectLaw.{Below, column_below, objects_below, or_left, or_right}
use Rattle.ocds_merge.proofs.ItemLaw.{has, filter_below}
use Rattle.ocds_merge.proofs.MergeLaw.{lists_below}

abbrev pub OptBelow : ℕ → Option Data → Type 0
OptBelow n None = Unit {0}
OptBelow n (Some d) = depth d < n

pub max_lt : (a b n : ℕ) → a < n → b < n → max a b < n
max_lt a b zero p q = absurd (omega arith)
max_lt a b (suc n) p q =
    let c : a ≤ n = omega arith in
    let d : b ≤ n = omega arith in
    omega (arith, max-le c d)

put_at : (o : Ordering) (n : ℕ) (k l : List ℕ) (d e : Data) (ms r : Members) → depth d < n → max (depth e) (members_depth ms) < n → members_depth r < n
    → members_depth (match_ordering o (member k d (member l e ms)) (member l d ms) (member l e r)) < n
put_at Less n k l d e ms r p h q = max_lt (depth d) (max (depth e) (members_depth ms)) n p h
put_at Equal n k l d e ms r p h q = max_lt (depth d) (members_depth ms) n p (omega (arith, le-max_right (depth e) (members_depth ms)))
put_at Greater n k l d e ms r p h q = max_lt (depth e) (members_depth r) n (omega (arith, le-max_left (depth e) (members_depth ms))) q

put_below : (n : ℕ) (k : List ℕ) (d : Data) (ms : Members) → depth d < n → members_depth ms < n → members_depth (put k d ms) < n
put_below n k d no_members p h = max_lt (depth d) 0 n p h
put_below n k d (member l e ms) p h =
    put_at (bytes_cmp k l) n k l d e ms (put k d ms) p h (put_below n k d ms p (omega (arith, le-max_right (depth e) (members_depth ms))))

put_some_below : (n : ℕ) (k : List ℕ) (o : Option Data) (ms : Members) → OptBelow n o → members_depth ms < n → members_depth (put_present k o ms) < n
put_some_below n k None ms p h = h
put_some_below n k (Some d) ms p h = put_below n k d ms p h

names_below : (n : ℕ) (M : List Data → Option Data) (run : List Members) (ks : List (List ℕ)) → 0 < n → ((k : List ℕ) → OptBelow n (M (column_at k run))) → members_depth (merge_names M run ks) < n
names_below n M run [] z h = z
names_below n M run (k ∷ ks) z h = put_some_below n k (M (column_at k run)) (merge_names M run ks) (h k) (names_below n M run ks z h)

or_null_below : (n : ℕ) (o : Option Data) → 0 < n → OptBelow n o → depth (unwrap_or o null) < n
or_null_below n None z h = z
or_null_below n (Some d) z h = h

list_below : (n : ℕ) (f : List ℕ → Data) (js : List (List ℕ)) → 0 < n → ((j : List ℕ) → depth (f j) < n) → items_depth (items_of (map f js)) < n
list_below n f [] z h = z
list_below n f (j ∷ js) z h = max_lt (depth (f j)) (items_depth (items_of (map f js))) n (h j) (list_below n f js z h)

mutual_at : (b : Bool) (m n : ℕ) (ds : Items) (s : List Data) → depth (array ds) < suc n → ((vs : List Data) → Below n vs → OptBelow n (merge_within m vs)) → Below n s
    → OptBelow (suc n) (cond b (Some (array (items_of (merge_items (merge_within m) s)))) (Some (array ds)))
mutual_at true m n ds s low ih below =
    let z : 0 < n = omega arith in
    let h : items_depth (items_of (merge_items (merge_within m) s)) < n =
    list_below n (merge_item (merge_within m) s) (ids_in s) z (λ j. or_null_below n (merge_within m (filter (has j) s)) z (ih (filter (has j) s) (filter_below n j s below))) in
    omega (arith, h)
mutual_at false m n ds s low ih below = low

pub merge_below : (m n : ℕ) (vs : List Data) → Below n vs → OptBelow n (merge_within m vs)
merge_below zero n vs h = tt
merge_below (suc m) n [] h = tt
merge_below (suc m) zero (v ∷ vs) h = absurd (omega (arith, h.0))
merge_below (suc m) (suc n) (null ∷ vs) h = tt
merge_below (suc m) (suc n) (boolean b ∷ vs) h = h.0
merge_below (suc m) (suc n) (number b ∷ vs) h = h.0
merge_below (suc m) (suc n) (string b ∷ vs) h = h.0
merge_below (suc m) (suc n) (array ds ∷ vs) h =
    mutual_at (is_id_list ds) m n ds (items_in (id_list_run (array ds ∷ vs))) h.0 (merge_below m n) (lists_below n (array ds ∷ vs) h)
merge_below (suc m) (suc n) (object ms ∷ vs) h =
    let run = ms ∷ object_run vs in
    let d : members_depth (merge_names (merge_within m) run (names_in run)) < n =
    names_below n (merge_within m) run (names_in run) (omega (arith, h.0)) (λ k. merge_below m n (column_at k run) (column_below n k run (objects_below n (object ms ∷ vs) h))) in
    omega (arith, d)

-- ---- floats

abbrev pub Plain : List Data → Type 0
Plain [] = Unit {0}
Plain (v ∷ vs) = (has_float v ≡ false) × Plain vs

abbrev pub OptPlain : Option Data → Type 0
OptPlain None = Unit {0}
OptPlain (Some d) = has_float d ≡ false

abbrev AllPlain : List Members → Type 0
AllPlain [] = Unit {0}
AllPlain (ms ∷ run) = (members_have_float ms ≡ false) × AllPlain run

either : (a b : Bool) → a ≡ false → b ≡ false → (a || b) ≡ false
either true b e f = e
either false b e f = f

plain_append : (xs ys : List Data) → Plain xs → Plain ys → Plain (xs ++ ys)
plain_append [] ys h g = g
plain_append (x ∷ xs) ys h g = (h.0, plain_append xs ys h.1 g)

plain_at : (o : Ordering) (d : Data) (x : Option Data) → has_float d ≡ false → Plain (option_to_list x) → Plain (option_to_list (match_ordering o x (Some d) x))
plain_at Less d x p h = h
plain_at Equal d x p h = (p, tt)
plain_at Greater d x p h = h

found_plain : (k : List ℕ) (ms : Members) → members_have_float ms ≡ false → Plain (option_to_list (get_member k ms))
found_plain k no_members h = tt
found_plain k (member l e ms) h = plain_at (bytes_cmp k l) e _ (or_left _ _ h) (found_plain k ms (or_right _ _ h))

column_plain : (k : List ℕ) (run : List Members) → AllPlain run → Plain (column_at k run)
column_plain k [] h = tt
column_plain k (ms ∷ run) h = plain_append _ _ (found_plain k ms h.0) (column_plain k run h.1)

objects_plain : (vs : List Data) → Plain vs → AllPlain (object_run vs)
objects_plain [] h = tt
objects_plain (null ∷ vs) h = tt
objects_plain (boolean b ∷ vs) h = tt
objects_plain (number b ∷ vs) h = tt
objects_plain (string b ∷ vs) h = tt
objects_plain (array b ∷ vs) h = tt
objects_plain (object ms ∷ vs) h = (h.0, objects_plain vs h.1)

onto_plain : (ds : Items) (s : List Data) → items_have_float ds ≡ false → Plain s → Plain (items_ahead ds s)
onto_plain no_items s h g = g
onto_plain (item d ds) s h g = onto_plain ds (d ∷ s) (or_right (has_float d) _ h) (or_left _ (items_have_float ds) h, g)

lists_plain : (vs : List Data) → Plain vs → Plain (items_in (id_list_run vs))
lists_plain [] h = tt
lists_plain (null ∷ vs) h = tt
lists_plain (boolean b ∷ vs) h = tt
lists_plain (number b ∷ vs) h = tt
lists_plain (string b ∷ vs) h = tt
lists_plain (object b ∷ vs) h = tt
lists_plain (array ds ∷ vs) h =
    elim (is_id_list ds) as (λ b. Plain (items_in (cond b (ds ∷ id_list_run vs) []))) [ true ↦ onto_plain ds _ h.0 (lists_plain vs h.1) | false ↦ tt ]

filter_plain : (j : List ℕ) (s : List Data) → Plain s → Plain (filter (has j) s)
filter_plain j [] h = tt
filter_plain j (d ∷ s) h = elim (has j d) as (λ b. Plain (cond b (d ∷ filter (has j) s) (filter (has j) s))) [ true ↦ (h.0, filter_plain j s h.1) | false ↦ filter_plain j s h.1 ]

put_plain_at : (o : Ordering) (k l : List ℕ) (d e : Data) (ms r : Members) → has_float d ≡ false → (has_float e || members_have_float ms) ≡ false → members_have_float r ≡ false
    → members_have_float (match_ordering o (member k d (member l e ms)) (member l d ms) (member l e r)) ≡ false
put_plain_at Less k l d e ms r p h q = either _ _ p h
put_plain_at Equal k l d e ms r p h q = either _ _ p (or_right (has_float e) _ h)
put_plain_at Greater k l d e ms r p h q = either _ _ (or_left _ (members_have_float ms) h) q

put_plain : (k : List ℕ) (d : Data) (ms : Members) → has_float d ≡ false → members_have_float ms ≡ false → members_have_float (put k d ms) ≡ false
put_plain k d no_members p h = either _ _ p refl
put_plain k d (member l e ms) p h = put_plain_at (bytes_cmp k l) k l d e ms (put k d ms) p h (put_plain k d ms p (or_right (has_float e) _ h))

put_some_plain : (k : List ℕ) (o : Option Data) (ms : Members) → OptPlain o → members_have_float ms ≡ false → members_have_float (put_present k o ms) ≡ false
put_some_plain k None ms p h = h
put_some_plain k (Some d) ms p h = put_plain k d ms p h

names_plain : (M : List Data → Option Data) (run : List Members) (ks : List (List ℕ)) → ((k : List ℕ) → OptPlain (M (column_at k run))) → members_have_float (merge_names M run ks) ≡ false
names_plain M run [] h = refl
names_plain M run (k ∷ ks) h = put_some_plain k (M (column_at k run)) (merge_names M run ks) (h k) (names_plain M run ks h)

pub or_null_plain : (o : Option Data) → OptPlain o → has_float (unwrap_or o null) ≡ false
or_null_plain None h = refl
or_null_plain (Some d) h = h

list_plain : (f : List ℕ → Data) (js : List (List ℕ)) → ((j : List ℕ) → has_float (f j) ≡ false) → items_have_float (items_of (map f js)) ≡ false
list_plain f [] h = refl
list_plain f (j ∷ js) h = either _ _ (h j) (list_plain f js h)

array_plain : (b : Bool) (m : ℕ) (ds : Items) (s : List Data) → has_float (array ds) ≡ false → ((vs : List Data) → Plain vs → OptPlain (merge_within m vs)) → Plain s
    → OptPlain (cond b (Some (array (items_of (merge_items (merge_within m) s)))) (Some (array ds)))
array_plain true m ds s h ih p = list_plain (merge_item (merge_within m) s) (ids_in s) (λ j. or_null_plain (merge_within m (filter (has j) s)) (ih (filter (has j) s) (filter_plain j s p)))
array_plain false m ds s h ih p = h

pub merge_plain : (m : ℕ) (vs : List Data) → Plain vs → OptPlain (merge_within m vs)
merge_plain zero vs h = tt
merge_plain (suc m) [] h = tt
merge_plain (suc m) (null ∷ vs) h = tt
merge_plain (suc m) (boolean b ∷ vs) h = refl
merge_plain (suc m) (number b ∷ vs) h = h.0
merge_plain (suc m) (string b ∷ vs) h = refl
merge_plain (suc m) (array ds ∷ vs) h =
    array_plain (is_id_list ds) m ds (items_in (id_list_run (array ds ∷ vs))) h.0 (merge_plain m) (lists_plain (array ds ∷ vs) h)
merge_plain (suc m) (object ms ∷ vs) h =
    let run = ms ∷ object_run vs in
    names_plain (merge_within m) run (names_in run) (λ k. merge_plain m (column_at k run) (column_plain k run (objects_plain (object ms ∷ vs) h)))

-- ---- in the order of the releases

below_append : (n : ℕ) (xs ys : List Data) → Below n xs → Below n ys → Below n (xs ++ ys)
below_append n [] ys h g = g
below_append n (x ∷ xs) ys h g = (h.0, below_append n xs ys h.1 g)

below_reverse : (n : ℕ) (vs : List Data) → Below n vs → Below n (reverse vs)
below_reverse n [] h = tt
below_reverse n (v ∷ vs) h = subst (λ (xs : List Data). Below n xs) (sym (reverse-append (v ∷ []) vs)) (below_append n (reverse vs) (v ∷ []) (below_reverse n vs h.1) (h.0, tt))

plain_reverse : (vs : List Data) → Plain vs → Plain (reverse vs)
plain_reverse [] h = tt
plain_reverse (v ∷ vs) h = subst (λ (xs : List Data). Plain xs) (sym (reverse-append (v ∷ []) vs)) (plain_append (reverse vs) (v ∷ []) (plain_reverse vs h.1) (h.0, tt))

pub merged_below : (n : ℕ) (vs : List Data) → Below n vs → OptBelow n (merge_of vs)
merged_below n vs h = merge_below (suc (deepest_of (reverse vs))) n (reverse vs) (below_reverse n vs h)

pub merged_plain : (vs : List Data) → Plain vs → OptPlain (merge_of vs)
merged_plain vs h = merge_plain (suc (deepest_of (reverse vs))) (reverse vs) (plain_reverse vs h)

-- ---- as text

storable_below : (vs : List Data) → All IsStorable vs → Below 128 vs
storable_below [] h = tt
storable_below (v ∷ vs) h = (let low : depth v ≤ 127 = (h 0 v (omega arith)).shallow in omega (arith, low), storable_below vs (λ k d low. h (suc k) d (omega (arith, low))))

storable_plain : (vs : List Data) → All IsStorable vs → Plain vs
storable_plain [] h = tt
storable_plain (v ∷ vs) h = ((h 0 v (omega arith)).no_float, storable_plain vs (λ k d low. h (suc k) d (omega (arith, low))))

pub merge_shallow : (vs : List Data) → All IsStorable vs → depth (merge_or_null vs) ≤ max_depth
merge_shallow vs h = let d : depth (merge_or_null vs) < 128 = or_null_below 128 (merge_of vs) (omega arith) (merged_below 128 vs (storable_below vs h)) in omega (arith, d)

pub merge_no_float : (vs : List Data) → All IsStorable vs → has_float (merge_or_null vs) ≡ false
merge_no_float vs h = or_null_plain (merge_of vs) (merged_plain vs (storable_plain vs h))

pub merge_storable : (vs : List Data) → All IsStorable vs → IsStorable (merge_or_null vs)
merge_storable vs h = record { no_float = merge_no_float vs h; shallow = merge_shallow vs h }

-- ---- a release without its head

without_below_at : (o : Ordering) (n : ℕ) (l : List ℕ) (e : Data) (ms r : Members) → max (depth e) (members_depth ms) < n → members_depth r < n
    → members_depth (match_ordering o (member l e r) ms (member l e r)) < n
without_below_at Less n l e ms r h q = max_lt (depth e) (members_depth r) n (omega (arith, le-max_left (depth e) (members_depth ms))) q
without_below_at Equal n l e ms r h q = omega (arith, le-max_right (depth e) (members_depth ms))
without_below_at Greater n l e ms r h q = max_lt (depth e) (members_depth r) n (omega (arith, le-max_left (depth e) (members_depth ms))) q

without_below : (n : ℕ) (k : List ℕ) (ms : Members) → members_depth ms < n → members_depth (members_without k ms) < n
without_below n k no_members h = h
without_below n k (member l e ms) h =
    without_below_at (bytes_cmp k l) n l e ms (members_without k ms) h (without_below n k ms (omega (arith, le-max_right (depth e) (members_depth ms))))

without_plain_at : (o : Ordering) (l : List ℕ) (e : Data) (ms r : Members) → (has_float e || members_have_float ms) ≡ false → members_have_float r ≡ false
    → members_have_float (match_ordering o (member l e r) ms (member l e r)) ≡ false
without_plain_at Less l e ms r h q = either _ _ (or_left _ (members_have_float ms) h) q
without_plain_at Equal l e ms r h q = or_right (has_float e) _ h
without_plain_at Greater l e ms r h q = either _ _ (or_left _ (members_have_float ms) h) q

without_plain : (k : List ℕ) (ms : Members) → members_have_float ms ≡ false → members_have_float (members_without k ms) ≡ false
without_plain k no_members h = h
without_plain k (member l e ms) h = without_plain_at (bytes_cmp k l) l e ms (members_without k ms) h (without_plain k ms (or_right (has_float e) _ h))

pub body_storable : (v : Data) → IsStorable v → IsStorable (body_of v)
body_storable null h = h
body_storable (boolean b) h = h
body_storable (number b) h = h
body_storable (string b) h = h
body_storable (array b) h = h
body_storable (object ms) h =
    let untagged : Members = members_without (codes "tag") ms in
    let undated : Members = members_without (codes "date") untagged in
    let low : members_depth ms < 127 = (let s : depth (object ms) ≤ 127 = h.shallow in omega (arith, s)) in
    let less : members_depth (members_without (codes "id") undated) < 127 =
    without_below 127 (codes "id") undated (without_below 127 (codes "date") untagged (without_below 127 (codes "tag") ms low)) in
    record {
      no_float = without_plain (codes "id") undated (without_plain (codes "date") untagged (without_plain (codes "tag") ms h.no_float));
      shallow = omega (arith, less);
    }
