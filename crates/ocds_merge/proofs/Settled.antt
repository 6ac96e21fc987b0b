-- A merge is the merge of itself alone.
use Rattle.ocds_merge.proofs.Names.{◌≡◌, ◌<◌, ℕ, zero, suc, List, [], ◌∷◌, ◌++◌, map, filter, reverse, Bool, true, false, cond, ◌||◌, Option, Some, None, option_to_list, unwrap_or, refl, sym, ap, ◌∙◌, subst, arith, bytes_eq, list_any, append-nil, append_assoc, list_any-append, bytes_eq-Decides, Data, null, boolean, number, string, array, object, Items, Members, depth, get_member, items_of, id_of, is_id_list, object_run, id_list_run, column_at, items_ahead, items_in, ids_in, names_in, merge_objects, merge_item, merge_items, merge_within, deepest_of, merge_newest_first, merge_of, merge_or_null, step, IsProper}
use Rattle.ocds_merge.proofs.MemberLemmas.{same_members}
use Rattle.ocds_merge.proofs.ObjectLaw.{Below, column_below, objects_below, get_objects, sorted_names, or_left, or_right}
use Rattle.ocds_merge.proofs.ItemLaw.{HaveIds, Kept, has, tied, flipped, filter_below, empty_to, picked, Distinct, distinct_ids, Named}
use Rattle.ocds_merge.proofs.MergeLaw.{list_of, named, onto_below, onto_have, lists_have, lists_below, all_have, list_is, agree, below_deepest, merged_law}
use Rattle.ocds_merge.proofs.StorableLaw.{OptBelow, merge_below}

-- ---- the ids of a list with one item for each id

-- none of these ids is among the known ones
abbrev Apart : List (List ℕ) → List (List ℕ) → Type 0
Apart [] known = Unit {0}
Apart (j ∷ js) known = (list_any (bytes_eq j) known ≡ false) × Apart js known

either : (a b : Bool) → a ≡ false → b ≡ false → (a || b) ≡ false
either true b e f = e
either false b e f = f

or_true : (b : Bool) → (b || true) ≡ true
or_true true = refl
or_true false = refl

apart_push : (js known : List (List ℕ)) (i : List ℕ) → Apart js known → list_any (bytes_eq i) js ≡ false → Apart js (known ++ i ∷ [])
apart_push [] known i a h = tt
apart_push (j ∷ js) known i a h =
    (list_any-append (bytes_eq j) known (i ∷ []) ∙ either _ _ a.0 (either _ _ (flipped i j (or_left _ _ h)) refl), apart_push js known i a.1 (or_right _ _ h))

apart_none : (js : List (List ℕ)) → Apart js []
apart_none [] = tt
apart_none (j ∷ js) = (refl, apart_none js)

new_id : (d : Data) (older : List Data) (j : List ℕ) → id_of d ≡ j → list_any (bytes_eq j) (ids_in older) ≡ false → ids_in (d ∷ older) ≡ ids_in older ++ j ∷ []
new_id d older j is h = rw (is, h) refl

ids_again : (f : List ℕ → Data) (js : List (List ℕ)) (older : List Data) → Named f js → Distinct js → Apart js (ids_in older)
    → ids_in (items_ahead (items_of (map f js)) older) ≡ ids_in older ++ js
ids_again f [] older n d a = sym (append-nil (ids_in older))
ids_again f (j ∷ js) older n d a =
    let one : ids_in (f j ∷ older) ≡ ids_in older ++ j ∷ [] = new_id (f j) older j n.0 a.0 in
    ids_again f js (f j ∷ older) n.1 d.1 (subst (λ (known : List (List ℕ)). Apart js known) (sym one) (apart_push js (ids_in older) j a.1 d.0))
    ∙ ap (λ (known : List (List ℕ)). known ++ js) one
    ∙ append_assoc (ids_in older) (j ∷ []) js

-- ---- its items with an id

filter_at : (b : Bool) (f : List ℕ → Data) (i j : List ℕ) (js : List (List ℕ)) (older : List Data) → bytes_eq i j ≡ b → id_of (f i) ≡ i → list_any (bytes_eq i) js ≡ false
    → cond (list_any (bytes_eq j) js) (f j ∷ filter (has j) (f i ∷ older)) (filter (has j) (f i ∷ older))
    ≡ cond (bytes_eq j i || list_any (bytes_eq j) js) (f j ∷ filter (has j) older) (filter (has j) older)
filter_at true f i j js older e n d =
    let same : i ≡ j = (bytes_eq-Decides i j).0 e in
    let none : list_any (bytes_eq j) js ≡ false = subst (λ (x : List ℕ). list_any (bytes_eq x) js ≡ false) same d in
    let self : bytes_eq j i ≡ true = subst (λ (x : List ℕ). bytes_eq j x ≡ true) (sym same) (tied j) in
    let item : f i ≡ f j = ap f same in
    rw (none, self, n, e, item) refl
filter_at false f i j js older e n d = rw (n, e, flipped i j e) refl

filter_again : (f : List ℕ → Data) (j : List ℕ) (js : List (List ℕ)) (older : List Data) → Named f js → Distinct js
    → filter (has j) (items_ahead (items_of (map f js)) older) ≡ cond (list_any (bytes_eq j) js) (f j ∷ filter (has j) older) (filter (has j) older)
filter_again f j [] older n d = refl
filter_again f j (i ∷ js) older n d = filter_again f j js (f i ∷ older) n.1 d.1 ∙ filter_at _ f i j js older refl n.0 d.0

map_same : (f g : List ℕ → Data) (js : List (List ℕ)) → ((j : List ℕ) → list_any (bytes_eq j) js ≡ true → g j ≡ f j) → map g js ≡ map f js
map_same f g [] h = refl
map_same f g (j ∷ js) h = rw (h j (rw (tied j))) (ap (λ (r : List Data). f j ∷ r) (map_same f g js (λ k e. h k (rw e (or_true (bytes_eq k j))))))

again_at : (f : List ℕ → Data) (M : List Data → Option Data) (j : List ℕ) (js : List (List ℕ)) → Named f js → Distinct js → list_any (bytes_eq j) js ≡ true → M (f j ∷ []) ≡ Some (f j)
    → merge_item M (items_ahead (items_of (map f js)) []) j ≡ f j
again_at f M j js n d h settled = rw (filter_again f j js [] n d, h, settled) refl

items_again : (f : List ℕ → Data) (M : List Data → Option Data) (js : List (List ℕ)) → Named f js → Distinct js → ((j : List ℕ) → list_any (bytes_eq j) js ≡ true → M (f j ∷ []) ≡ Some (f j))
    → merge_items M (items_ahead (items_of (map f js)) []) ≡ map f js
items_again f M js n d settled =
    let t : List Data = items_ahead (items_of (map f js)) [] in
    ap (map (merge_item M t)) (ids_again f js [] n d (apart_none js))
    ∙ map_same f (merge_item M t) js (λ j h. again_at f M j js n d h (settled j h))

-- ---- at any depth

abbrev Settles : ℕ → Type 0
Settles n = (vs : List Data) → Below n vs → merge_within n (option_to_list (merge_within n vs)) ≡ merge_within n vs

item_settles : (n : ℕ) (s : List Data) (j : List ℕ) → Settles n → Below n s → Kept (merge_within n (filter (has j) s)) (Some j)
    → merge_within n (merge_item (merge_within n) s j ∷ []) ≡ Some (merge_item (merge_within n) s j)
item_settles n s j settles low kept =
    ap (λ (o : Option Data). merge_within n (option_to_list o)) (sym kept.is) ∙ settles (filter (has j) s) (filter_below n j s low) ∙ kept.is

list_settles : (n : ℕ) (s : List Data) → Settles n → HaveIds s → Below n s → merge_items (merge_within n) (items_ahead (items_of (list_of n s)) []) ≡ list_of n s
list_settles n s settles have low =
    items_again (merge_item (merge_within n) s) (merge_within n) (ids_in s) (named n s have low) (distinct_ids s)
    (λ j h. item_settles n s j settles low (picked n s have low j h))

alone_at : (n : ℕ) (es : Items) → is_id_list es ≡ true → merge_within (suc n) (array es ∷ []) ≡ Some (array (items_of (merge_items (merge_within n) (items_ahead es []))))
alone_at n es e = rw e refl

array_settles : (n : ℕ) (ds : Items) (vs : List Data) (b : Bool) → is_id_list ds ≡ b → Settles n → Below (suc n) (array ds ∷ vs)
    → merge_within (suc n) (option_to_list (cond b (Some (array (items_of (list_of n (items_in (cond b (ds ∷ id_list_run vs) [])))))) (Some (array ds))))
    ≡ cond b (Some (array (items_of (list_of n (items_in (cond b (ds ∷ id_list_run vs) [])))))) (Some (array ds))
array_settles n ds vs true e settles low =
    let have : HaveIds (items_ahead ds (items_in (id_list_run vs))) = onto_have ds _ (all_have ds e) (lists_have vs) in
    let below : Below n (items_ahead ds (items_in (id_list_run vs))) = onto_below n ds _ (omega arith) (lists_below n vs low.1) in
    alone_at n (items_of (list_of n (items_ahead ds (items_in (id_list_run vs))))) (list_is n ds (items_in (id_list_run vs)) e have below)
    ∙ ap (λ (xs : List Data). Some (array (items_of xs))) (list_settles n (items_ahead ds (items_in (id_list_run vs))) settles have below)
array_settles n ds vs false e settles low = rw e refl

object_settles : (n : ℕ) (run : List Members) → ((q : List ℕ) → merge_within n (option_to_list (merge_within n (column_at q run))) ≡ merge_within n (column_at q run))
    → merge_objects (merge_within n) (merge_objects (merge_within n) run ∷ []) ≡ merge_objects (merge_within n) run
object_settles n run settles =
    let M : List Data → Option Data = merge_within n in
    let ms : Members = merge_objects M run in
    same_members _ _ (sorted_names M (ms ∷ []) (names_in (ms ∷ []))) (sorted_names M run (names_in run))
    (λ q. get_objects M (empty_to n) (ms ∷ []) q
    ∙ ap M (append-nil (option_to_list (get_member q ms)))
    ∙ ap (λ (o : Option Data). M (option_to_list o)) (get_objects M (empty_to n) run q)
    ∙ settles q
    ∙ sym (get_objects M (empty_to n) run q))

settled_within : (n : ℕ) → Settles n
settled_within zero vs low = refl
settled_within (suc n) [] low = refl
settled_within (suc n) (null ∷ vs) low = refl
settled_within (suc n) (boolean b ∷ vs) low = refl
settled_within (suc n) (number b ∷ vs) low = refl
settled_within (suc n) (string b ∷ vs) low = refl
settled_within (suc n) (array ds ∷ vs) low = array_settles n ds vs _ refl (settled_within n) low
settled_within (suc n) (object ms ∷ vs) low =
    ap (λ (r : Members). Some (object r))
    (object_settles n (ms ∷ object_run vs) (λ q. settled_within n (column_at q (ms ∷ object_run vs)) (column_below n q (ms ∷ object_run vs) (objects_below n (object ms ∷ vs) low))))

-- ---- in the order of the releases

alone : (n : ℕ) (d : Data) → depth d < n → merge_newest_first (d ∷ []) ≡ merge_within n (d ∷ [])
alone n d low = agree (suc (deepest_of (d ∷ []))) n (omega (arith, low)) (d ∷ []) (below_deepest (d ∷ []))

settled_at : (n : ℕ) (o : Option Data) → OptBelow n o → merge_within n (option_to_list o) ≡ o → merge_of (unwrap_or o null ∷ []) ≡ o
settled_at n None low e = refl
settled_at n (Some d) low e = alone n d low ∙ e

pub settled : (vs : List Data) → merge_of (merge_or_null vs ∷ []) ≡ merge_of vs
settled vs =
    let n = suc (deepest_of (reverse vs)) in
    settled_at n (merge_of vs) (merge_below n n (reverse vs) (below_deepest (reverse vs))) (settled_within n (reverse vs) (below_deepest (reverse vs)))

-- the merge of some values and one more is the merge of the former's merge and the new one
pub one_more : (vs : List Data) (v : Data) → IsProper v → merge_of (vs ++ v ∷ []) ≡ merge_of (merge_or_null vs ∷ v ∷ [])
one_more vs v p = merged_law vs v p ∙ ap (λ (t : Option Data). step t v) (sym (settled vs)) ∙ sym (merged_law (merge_or_null vs ∷ []) v p)
