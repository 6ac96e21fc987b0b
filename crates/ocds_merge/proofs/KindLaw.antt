-- The last value of a column decides the kind of the merge, at any depth.
use Rattle.ocds_merge.proofs.Names.{◌≡◌, ◌<◌, ℕ, suc, List, [], ◌∷◌, ◌++◌, reverse, true, false, Option, Some, unwrap_or, refl, sym, ap, ◌∙◌, arith, reverse-append, Data, null, array, object, Items, Members, depth, get, items_of, is_id_list, object_run, id_list_run, column_at, items_in, ids_in, merge_items, merge_within, deepest_of, merge_newest_first, merge_of, merge_or_null}
use Rattle.ocds_merge.proofs.ObjectLaw.{Below, column_below, objects_below, get_objects}
use Rattle.ocds_merge.proofs.ItemLaw.{empty_to}
use Rattle.ocds_merge.proofs.MergeLaw.{Agree, agree, below_deepest, items_agree, lists_below}
use Rattle.ocds_merge.proofs.StorableLaw.{max_lt}

deepest_below : (n : ℕ) (vs : List Data) → 0 < n → Below n vs → deepest_of vs < n
deepest_below n [] z h = z
deepest_below n (v ∷ vs) z h = max_lt (depth v) (deepest_of vs) n h.0 (deepest_below n vs z h.1)

-- a merge by enough levels is the merge
enough : (n : ℕ) → Agree n (merge_within n) merge_newest_first
enough n [] low = empty_to n
enough n (v ∷ vs) low =
    let z : 0 < n = omega (arith, low.0) in
    let deep : deepest_of (v ∷ vs) < n = deepest_below n (v ∷ vs) z low in
    sym (agree (suc (deepest_of (v ∷ vs))) n (omega (arith, deep)) (v ∷ vs) (below_deepest (v ∷ vs)))

pub newest : (vs : List Data) (v : Data) → merge_of (vs ++ v ∷ []) ≡ merge_newest_first (v ∷ reverse vs)
newest vs v = ap merge_newest_first (reverse-append vs (v ∷ []))

pub plain_array : (vs : List Data) (ds : Items) → is_id_list ds ≡ false → merge_of (vs ++ array ds ∷ []) ≡ Some (array ds)
plain_array vs ds e = newest vs (array ds) ∙ rw e refl

pub at_name : (vs : List Data) (ms : Members) (k : List ℕ) → get k (merge_or_null (vs ++ object ms ∷ [])) ≡ merge_newest_first (column_at k (ms ∷ object_run (reverse vs)))
at_name vs ms k =
    let all : List Data = object ms ∷ reverse vs in
    let n = deepest_of all in
    let run : List Members = ms ∷ object_run (reverse vs) in
    ap (λ (o : Option Data). get k (unwrap_or o null)) (newest vs (object ms))
    ∙ get_objects (merge_within n) (empty_to n) run k
    ∙ enough n (column_at k run) (column_below n k run (objects_below n all (below_deepest all)))

of_items : (n : ℕ) (s : List Data) → Below n s → merge_items (merge_within n) s ≡ merge_items merge_newest_first s
of_items n s low = items_agree n (merge_within n) merge_newest_first (enough n) s low (ids_in s)

list_at : (ds : Items) (rest : List Data) → is_id_list ds ≡ true → id_list_run (array ds ∷ rest) ≡ ds ∷ id_list_run rest
list_at ds rest e = rw e refl

level_at : (ds : Items) (rest : List Data) → is_id_list ds ≡ true
    → merge_newest_first (array ds ∷ rest) ≡ Some (array (items_of (merge_items (merge_within (deepest_of (array ds ∷ rest))) (items_in (id_list_run (array ds ∷ rest))))))
level_at ds rest e = rw e refl

pub id_list : (vs : List Data) (ds : Items) → is_id_list ds ≡ true
    → merge_of (vs ++ array ds ∷ []) ≡ Some (array (items_of (merge_items merge_newest_first (items_in (ds ∷ id_list_run (reverse vs))))))
id_list vs ds e =
    let all : List Data = array ds ∷ reverse vs in
    newest vs (array ds)
    ∙ level_at ds (reverse vs) e
    ∙ ap (λ (xs : List Data). Some (array (items_of xs)))
    (of_items (deepest_of all) (items_in (id_list_run all)) (lists_below (deepest_of all) all (below_deepest all))
    ∙ ap (λ (run : List Items). merge_items merge_newest_first (items_in run)) (list_at ds (reverse vs) e))
