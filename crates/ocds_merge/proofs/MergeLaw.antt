-- The merge of one more value is a step from the merge of the others.
use Rattle.ocds_merge.proofs.Names.{◌≡◌, ◌<◌, ◌≤◌, ℕ, zero, suc, max, List, [], ◌∷◌, ◌++◌, map, filter, reverse, Bool, true, false, cond, ◌&&◌, ◌||◌, Option, Some, None, is_some, unwrap_or, refl, sym, ap, ◌∙◌, arith, bytes_eq, true≢false, list_any, le-max_left, le-max_right, map-append, reverse-append, Data, null, boolean, number, string, array, object, Items, no_items, item, Members, no_members, depth, items_depth, items_of, text_id, id_of, all_have_id, is_id_list, object_run, id_list_run, column_at, items_ahead, items_in, ids_in, names_in, merge_names, merge_objects, merge_item, merge_items, merge_level, merge_within, deepest_of, merge_newest_first, merge_of, items_list, object_of, id_list_of, find_item, set_item, step, step_items, step_members, not_null, IsProper, AreItemsProper}
use Rattle.ocds_merge.proofs.ObjectLaw.{Below, AllBelow, column_below, objects_below, Steps, objects_law}
use Rattle.ocds_merge.proofs.ItemLaw.{HaveIds, among, has, tied, among_self, among_onto, none_of, filter_below, empty_to, picked, distinct_ids, named_all, Named, Changes, map_apart, find_map, set_none, set_map}

abbrev pub list_of : ℕ → List Data → List Data
list_of n s = merge_items (merge_within n) s

pub named : (n : ℕ) (s : List Data) → HaveIds s → Below n s → Named (merge_item (merge_within n) s) (ids_in s)
named n s have low = named_all (merge_item (merge_within n) s) (ids_in s) (λ j e. ap (λ (o : Option (List ℕ)). unwrap_or o []) (picked n s have low j e).id)

find_at : (n : ℕ) (i : List ℕ) (s : List Data) (b : Bool) → among i s ≡ b → HaveIds s → Below n s → cond b (Some (merge_item (merge_within n) s i)) None ≡ merge_within n (filter (has i) s)
find_at n i s true e have low = sym (picked n s have low i e).is
find_at n i s false e have low = rw (none_of i s e) (sym (empty_to n))

-- the item with an id is the merge of the items with this id
find_is : (n : ℕ) (i : List ℕ) (s : List Data) → HaveIds s → Below n s → find_item i (list_of n s) ≡ merge_within n (filter (has i) s)
find_is n i s have low = find_map (merge_item (merge_within n) s) i (ids_in s) (named n s have low) ∙ find_at n i s _ refl have low

changes : (n : ℕ) (d : Data) (s : List Data) → Changes (merge_item (merge_within n) s) (merge_item (merge_within n) (d ∷ s)) (id_of d)
changes n d s j e = rw e

new_item : (n : ℕ) (d : Data) (s : List Data) → depth d < n → IsProper d → HaveIds s → Below n s → Steps n (merge_within n)
    → unwrap_or (step (find_item (id_of d) (list_of n s)) d) null ≡ merge_item (merge_within n) (d ∷ s) (id_of d)
new_item n d s low p have below steps =
    rw (find_is n (id_of d) s have below, tied (id_of d))
    (ap (λ (o : Option Data). unwrap_or o null) (sym (steps d (filter (has (id_of d)) s) low p (filter_below n (id_of d) s below))))

turn_at : (n : ℕ) (d : Data) (s : List Data) (b : Bool) → among (id_of d) s ≡ b → HaveIds s → Below n s
    → set_item (id_of d) (merge_item (merge_within n) (d ∷ s) (id_of d)) (list_of n s) ≡ map (merge_item (merge_within n) (d ∷ s)) (cond b (ids_in s) (ids_in s ++ id_of d ∷ []))
turn_at n d s true e have below =
    set_map (merge_item (merge_within n) s) (merge_item (merge_within n) (d ∷ s)) (id_of d) (ids_in s) (changes n d s) (named n s have below) (distinct_ids s) e
turn_at n d s false e have below =
    let f = merge_item (merge_within n) s in
    let g = merge_item (merge_within n) (d ∷ s) in
    set_none f (id_of d) (g (id_of d)) (ids_in s) (named n s have below) e
    ∙ ap (λ (xs : List Data). xs ++ g (id_of d) ∷ []) (sym (map_apart f g (id_of d) (ids_in s) (changes n d s) e))
    ∙ sym (map-append g (ids_in s) (id_of d ∷ []))

turn : (n : ℕ) (d : Data) (s : List Data) → depth d < n → IsProper d → HaveIds s → Below n s → Steps n (merge_within n)
    → set_item (id_of d) (unwrap_or (step (find_item (id_of d) (list_of n s)) d) null) (list_of n s) ≡ list_of n (d ∷ s)
turn n d s low p have below steps =
    ap (λ (x : Data). set_item (id_of d) x (list_of n s)) (new_item n d s low p have below steps) ∙ turn_at n d s _ refl have below

and_left : (a b : Bool) → (a && b) ≡ true → a ≡ true
and_left true b e = refl
and_left false b e = e

and_right : (a b : Bool) → (a && b) ≡ true → b ≡ true
and_right true b e = e
and_right false b e = absurd (true≢false (sym e))

items_law : (n : ℕ) → Steps n (merge_within n) → (ds : Items) (s : List Data) → all_have_id ds ≡ true → items_depth ds < n → AreItemsProper ds → HaveIds s → Below n s
    → step_items (list_of n s) ds ≡ list_of n (items_ahead ds s)
items_law n steps no_items s all low p have below = refl
items_law n steps (item d ds) s all low p have below =
    let low_d : depth d < n = omega (arith, le-max_left (depth d) (items_depth ds)) in
    let low_ds : items_depth ds < n = omega (arith, le-max_right (depth d) (items_depth ds)) in
    let id : is_some (text_id d) ≡ true = and_left (is_some (text_id d)) (all_have_id ds) all in
    ap (λ (ts : List Data). step_items ts ds) (turn n d s low_d p.0 have below steps)
    ∙ items_law n steps ds (d ∷ s) (and_right (is_some (text_id d)) (all_have_id ds) all) low_ds p.1 (id, have) (low_d, below)

-- ---- the conditions on the columns of id lists

pub onto_below : (n : ℕ) (ds : Items) (s : List Data) → items_depth ds < n → Below n s → Below n (items_ahead ds s)
onto_below n no_items s h g = g
onto_below n (item d ds) s h g = onto_below n ds (d ∷ s) (omega (arith, le-max_right (depth d) (items_depth ds))) (omega (arith, le-max_left (depth d) (items_depth ds)), g)

pub onto_have : (ds : Items) (s : List Data) → all_have_id ds ≡ true → HaveIds s → HaveIds (items_ahead ds s)
onto_have no_items s h g = g
onto_have (item d ds) s h g = onto_have ds (d ∷ s) (and_right (is_some (text_id d)) (all_have_id ds) h) (and_left (is_some (text_id d)) (all_have_id ds) h, g)

pub all_have : (ds : Items) → is_id_list ds ≡ true → all_have_id ds ≡ true
all_have no_items e = refl
all_have (item d ds) e = e

pub lists_below : (n : ℕ) (vs : List Data) → Below (suc n) vs → Below n (items_in (id_list_run vs))
lists_below n [] h = tt
lists_below n (null ∷ vs) h = tt
lists_below n (boolean b ∷ vs) h = tt
lists_below n (number b ∷ vs) h = tt
lists_below n (string b ∷ vs) h = tt
lists_below n (object b ∷ vs) h = tt
lists_below n (array ds ∷ vs) h =
    elim (is_id_list ds) as (λ b. Below n (items_in (cond b (ds ∷ id_list_run vs) []))) [ true ↦ onto_below n ds _ (omega arith) (lists_below n vs h.1) | false ↦ tt ]

pub lists_have : (vs : List Data) → HaveIds (items_in (id_list_run vs))
lists_have [] = tt
lists_have (null ∷ vs) = tt
lists_have (boolean b ∷ vs) = tt
lists_have (number b ∷ vs) = tt
lists_have (string b ∷ vs) = tt
lists_have (object b ∷ vs) = tt
lists_have (array ds ∷ vs) =
    elim (is_id_list ds) as (λ b. is_id_list ds ≡ b → HaveIds (items_in (cond b (ds ∷ id_list_run vs) []))) [ true ↦ λ e. onto_have ds _ (all_have ds e) (lists_have vs) | false ↦ λ e. tt ] refl

-- ---- the id list of a merge

pub items_list-items_of : (xs : List Data) → items_list (items_of xs) ≡ xs
items_list-items_of [] = refl
items_list-items_of (x ∷ xs) = ap (λ (r : List Data). x ∷ r) (items_list-items_of xs)

either : (b : Bool) → (b || true) ≡ true
either true = refl
either false = refl

have_map : (f : List ℕ → Data) (js : List (List ℕ)) → ((j : List ℕ) → list_any (bytes_eq j) js ≡ true → is_some (text_id (f j)) ≡ true) → all_have_id (items_of (map f js)) ≡ true
have_map f [] h = refl
have_map f (j ∷ js) h = rw (h j (rw (tied j))) (have_map f js (λ k e. h k (rw e (either (bytes_eq k j)))))

id_list_at : (js : List (List ℕ)) (f : List ℕ → Data) (j : List ℕ) → list_any (bytes_eq j) js ≡ true → all_have_id (items_of (map f js)) ≡ true → is_id_list (items_of (map f js)) ≡ true
id_list_at [] f j h all = absurd (true≢false (sym h))
id_list_at (k ∷ js) f j h all = all

merged_id_list : (n : ℕ) (s : List Data) (j : List ℕ) → HaveIds s → Below n s → among j s ≡ true → is_id_list (items_of (list_of n s)) ≡ true
merged_id_list n s j have low h =
    id_list_at (ids_in s) (merge_item (merge_within n) s) j h (have_map (merge_item (merge_within n) s) (ids_in s) (λ k e. ap is_some (picked n s have low k e).id))

onto_among : (d : Data) (ds : Items) (s : List Data) → among (id_of d) (items_ahead ds (d ∷ s)) ≡ true
onto_among d ds s = among_onto (id_of d) ds (d ∷ s) (among_self d s)

pub list_is : (n : ℕ) (ds : Items) (s : List Data) → is_id_list ds ≡ true → HaveIds (items_ahead ds s) → Below n (items_ahead ds s) → is_id_list (items_of (list_of n (items_ahead ds s))) ≡ true
list_is n no_items s e have low = absurd (true≢false (sym e))
list_is n (item d ds) s e have low = merged_id_list n _ (id_of d) have low (onto_among d ds s)

id_list_of_at : (n : ℕ) (ds : Items) (vs : List Data) (b : Bool) → is_id_list ds ≡ b → Below (suc n) (array ds ∷ vs)
    → id_list_of (cond b (Some (array (items_of (list_of n (items_in (cond b (ds ∷ id_list_run vs) [])))))) (Some (array ds))) ≡ list_of n (items_in (cond b (ds ∷ id_list_run vs) []))
id_list_of_at n ds vs true e low =
    let below : Below n (items_ahead ds (items_in (id_list_run vs))) = onto_below n ds _ (omega arith) (lists_below n vs low.1) in
    rw (list_is n ds (items_in (id_list_run vs)) e (onto_have ds _ (all_have ds e) (lists_have vs)) below) (items_list-items_of _)
id_list_of_at n ds vs false e low = rw e

id_list_of_merge : (n : ℕ) (vs : List Data) → Below (suc n) vs → id_list_of (merge_within (suc n) vs) ≡ list_of n (items_in (id_list_run vs))
id_list_of_merge n [] low = refl
id_list_of_merge n (null ∷ vs) low = refl
id_list_of_merge n (boolean b ∷ vs) low = refl
id_list_of_merge n (number b ∷ vs) low = refl
id_list_of_merge n (string b ∷ vs) low = refl
id_list_of_merge n (object b ∷ vs) low = refl
id_list_of_merge n (array ds ∷ vs) low = id_list_of_at n ds vs _ refl low

object_of_at : (b : Bool) (ds es : Items) → object_of (cond b (Some (array ds)) (Some (array es))) ≡ no_members
object_of_at true ds es = refl
object_of_at false ds es = refl

object_of_merge : (n : ℕ) (vs : List Data) → object_of (merge_within (suc n) vs) ≡ merge_objects (merge_within n) (object_run vs)
object_of_merge n [] = refl
object_of_merge n (null ∷ vs) = refl
object_of_merge n (boolean b ∷ vs) = refl
object_of_merge n (number b ∷ vs) = refl
object_of_merge n (string b ∷ vs) = refl
object_of_merge n (object b ∷ vs) = refl
object_of_merge n (array ds ∷ vs) = object_of_at (is_id_list ds) _ ds

-- ---- the law, at any depth

array_at : (n : ℕ) (ds : Items) (vs : List Data) (b : Bool) → is_id_list ds ≡ b → Steps n (merge_within n) → depth (array ds) < suc n → IsProper (array ds) → Below (suc n) vs
    → cond b (Some (array (items_of (list_of n (items_in (cond b (ds ∷ id_list_run vs) [])))))) (Some (array ds))
    ≡ cond b (Some (array (items_of (step_items (id_list_of (merge_within (suc n) vs)) ds)))) (Some (array ds))
array_at n ds vs true e steps low p below =
    ap (λ (xs : List Data). Some (array (items_of xs)))
    (sym (items_law n steps ds (items_in (id_list_run vs)) (all_have ds e) (omega arith) (p e) (lists_have vs) (lists_below n vs below))
    ∙ ap (λ (ts : List Data). step_items ts ds) (sym (id_list_of_merge n vs below)))
array_at n ds vs false e steps low p below = refl

pub law_at : (n : ℕ) → Steps n (merge_within n)
law_at zero v vs low p below = absurd (omega arith)
law_at (suc n) null vs low p below = refl
law_at (suc n) (boolean b) vs low p below = refl
law_at (suc n) (number b) vs low p below = refl
law_at (suc n) (string b) vs low p below = refl
law_at (suc n) (array ds) vs low p below = array_at n ds vs _ refl (law_at n) low p below
law_at (suc n) (object ms) vs low p below =
    ap (λ (r : Members). Some (object r))
    (objects_law n (merge_within n) (empty_to n) (law_at n) ms (object_run vs) (omega arith) p (objects_below n vs below)
    ∙ ap (λ (t : Members). step_members t ms) (sym (object_of_merge n vs)))

-- ---- more levels change nothing

abbrev pub Agree : ℕ → (List Data → Option Data) → (List Data → Option Data) → Type 0
Agree n M N = (vs : List Data) → Below n vs → M vs ≡ N vs

names_agree : (n : ℕ) (M N : List Data → Option Data) → Agree n M N → (run : List Members) → AllBelow n run → (ks : List (List ℕ)) → merge_names M run ks ≡ merge_names N run ks
names_agree n M N a run low [] = refl
names_agree n M N a run low (k ∷ ks) = rw (a (column_at k run) (column_below n k run low), names_agree n M N a run low ks)

pub items_agree : (n : ℕ) (M N : List Data → Option Data) → Agree n M N → (s : List Data) → Below n s → (js : List (List ℕ)) → map (merge_item M s) js ≡ map (merge_item N s) js
items_agree n M N a s low [] = refl
items_agree n M N a s low (j ∷ js) = rw (a (filter (has j) s) (filter_below n j s low), items_agree n M N a s low js)

level_agrees : (n : ℕ) (M N : List Data → Option Data) → Agree n M N → Agree (suc n) (merge_level M) (merge_level N)
level_agrees n M N a [] low = refl
level_agrees n M N a (null ∷ vs) low = refl
level_agrees n M N a (boolean b ∷ vs) low = refl
level_agrees n M N a (number b ∷ vs) low = refl
level_agrees n M N a (string b ∷ vs) low = refl
level_agrees n M N a (array ds ∷ vs) low =
    let s = items_in (id_list_run (array ds ∷ vs)) in
    ap (λ (xs : List Data). cond (is_id_list ds) (Some (array (items_of xs))) (Some (array ds))) (items_agree n M N a s (lists_below n (array ds ∷ vs) low) (ids_in s))
level_agrees n M N a (object ms ∷ vs) low =
    ap (λ (r : Members). Some (object r)) (names_agree n M N a (ms ∷ object_run vs) (objects_below n (object ms ∷ vs) low) (names_in (ms ∷ object_run vs)))

zero_agrees : (m : ℕ) (vs : List Data) → Below 0 vs → merge_within 0 vs ≡ merge_within m vs
zero_agrees m [] low = sym (empty_to m)
zero_agrees m (v ∷ vs) low = absurd (omega (arith, low.0))

pub agree : (n m : ℕ) → n ≤ m → Agree n (merge_within n) (merge_within m)
agree zero m h vs low = zero_agrees m vs low
agree (suc n) zero h vs low = absurd (omega arith)
agree (suc n) (suc m) h vs low = level_agrees n (merge_within n) (merge_within m) (agree n m (omega arith)) vs low

below_more : (n m : ℕ) → n ≤ m → (vs : List Data) → Below n vs → Below m vs
below_more n m h [] low = tt
below_more n m h (v ∷ vs) low = (omega (arith, low.0), below_more n m h vs low.1)

pub below_deepest : (vs : List Data) → Below (suc (deepest_of vs)) vs
below_deepest [] = tt
below_deepest (v ∷ vs) =
    (omega (arith, le-max_left (depth v) (deepest_of vs)), below_more (suc (deepest_of vs)) (suc (max (depth v) (deepest_of vs))) (omega (arith, le-max_right (depth v) (deepest_of vs))) vs (below_deepest vs))

pub newest_law : (v : Data) (vs : List Data) → IsProper v → merge_newest_first (v ∷ vs) ≡ step (merge_newest_first vs) v
newest_law v vs p =
    let n = suc (deepest_of (v ∷ vs)) in
    let low = below_deepest (v ∷ vs) in
    law_at n v vs low.0 p low.1
    ∙ ap (λ (t : Option Data). step t v) (sym (agree (suc (deepest_of vs)) n (omega (arith, le-max_right (depth v) (deepest_of vs))) vs (below_deepest vs)))

-- the merge of some values and one more
pub merged_law : (vs : List Data) (v : Data) → IsProper v → merge_of (vs ++ v ∷ []) ≡ step (merge_of vs) v
merged_law vs v p = ap merge_newest_first (reverse-append vs (v ∷ [])) ∙ newest_law v (reverse vs) p

-- a merge is never `null`
level_not_null : (M : List Data → Option Data) (vs : List Data) → not_null (unwrap_or (merge_level M vs) null) ≡ merge_level M vs
level_not_null M [] = refl
level_not_null M (null ∷ vs) = refl
level_not_null M (boolean b ∷ vs) = refl
level_not_null M (number b ∷ vs) = refl
level_not_null M (string b ∷ vs) = refl
level_not_null M (object b ∷ vs) = refl
level_not_null M (array ds ∷ vs) =
    elim (is_id_list ds) as (λ b. not_null (unwrap_or (cond b (Some (array (items_of (merge_items M (items_in (id_list_run (array ds ∷ vs))))))) (Some (array ds))) null) ≡ cond b (Some (array (items_of (merge_items M (items_in (id_list_run (array ds ∷ vs))))))) (Some (array ds))) [ true ↦ refl | false ↦ refl ]

pub merged_not_null : (vs : List Data) → not_null (unwrap_or (merge_of vs) null) ≡ merge_of vs
merged_not_null vs = level_not_null (merge_within (deepest_of (reverse vs))) (reverse vs)
