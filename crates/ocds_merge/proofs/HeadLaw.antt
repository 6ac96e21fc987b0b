-- The head of a compiled release replaces those of the releases, so the releases may be merged with their heads.
use Rattle.ocds_merge.proofs.Names.{◌≡◌, ◌+◌, ℕ, zero, suc, List, [], ◌∷◌, ◌++◌, map, reverse, Bool, true, false, cond, Option, Some, None, option_to_list, unwrap_or, refl, sym, ap, ◌∙◌, subst, arith, bytes_eq, codes, bytes_eq-Decides, map-append, reverse-append, Data, null, boolean, number, string, array, object, Items, Members, put, get_member, items_of, get_member-put, get_member-put_other, is_id_list, object_run, column_at, names_in, merge_objects, id_list_run, items_in, merge_items, merge_within, deepest_of, merge_newest_first, merge_or_null, members_without, body_of, compiled_tag, put_head, with_head}
use Rattle.ocds_merge.proofs.MemberLemmas.{IsSorted, same_members, sorted_put, get_delete_other}
use Rattle.ocds_merge.proofs.ObjectLaw.{apart, get_objects, sorted_names}
use Rattle.ocds_merge.proofs.ItemLaw.{empty_to}
use Rattle.ocds_merge.proofs.MergeLaw.{agree, below_deepest}

abbrev bare : Members → Members
bare ms = members_without (codes "id") (members_without (codes "date") (members_without (codes "tag") ms))

-- ---- the runs and columns of bodies

objects_of_bodies : (vs : List Data) → object_run (map body_of vs) ≡ map bare (object_run vs)
objects_of_bodies [] = refl
objects_of_bodies (null ∷ vs) = refl
objects_of_bodies (boolean b ∷ vs) = refl
objects_of_bodies (number n ∷ vs) = refl
objects_of_bodies (string s ∷ vs) = refl
objects_of_bodies (array ds ∷ vs) = refl
objects_of_bodies (object ms ∷ vs) = ap (λ (run : List Members). bare ms ∷ run) (objects_of_bodies vs)

lists_of_bodies : (vs : List Data) → id_list_run (map body_of vs) ≡ id_list_run vs
lists_of_bodies [] = refl
lists_of_bodies (null ∷ vs) = refl
lists_of_bodies (boolean b ∷ vs) = refl
lists_of_bodies (number n ∷ vs) = refl
lists_of_bodies (string s ∷ vs) = refl
lists_of_bodies (array ds ∷ vs) = ap (λ (run : List Items). cond (is_id_list ds) (ds ∷ run) []) (lists_of_bodies vs)
lists_of_bodies (object ms ∷ vs) = refl

column_of_bodies : (q : List ℕ) (run : List Members) → (q ≡ codes "id" → ⊥) → (q ≡ codes "date" → ⊥) → (q ≡ codes "tag" → ⊥) → column_at q (map bare run) ≡ column_at q run
column_of_bodies q [] id date tag = refl
column_of_bodies q (ms ∷ run) id date tag =
    let here : get_member q (bare ms) ≡ get_member q ms =
    get_delete_other q (codes "id") (members_without (codes "date") (members_without (codes "tag") ms)) id
    ∙ get_delete_other q (codes "date") (members_without (codes "tag") ms) date
    ∙ get_delete_other q (codes "tag") ms tag in
    ap (λ (o : Option Data). option_to_list o ++ column_at q (map bare run)) here
    ∙ ap (λ (vs : List Data). option_to_list (get_member q ms) ++ vs) (column_of_bodies q run id date tag)

-- ---- under a member that is put in

put_over_at : (same : Bool) (q k : List ℕ) (d : Data) (a b : Members) → bytes_eq q k ≡ same → ((q ≡ k → ⊥) → get_member q a ≡ get_member q b)
    → get_member q (put k d a) ≡ get_member q (put k d b)
put_over_at true q k d a b e later =
    subst (λ (x : List ℕ). get_member x (put k d a) ≡ get_member x (put k d b)) (sym ((bytes_eq-Decides q k).0 e)) (get_member-put k d a ∙ sym (get_member-put k d b))
put_over_at false q k d a b e later =
    get_member-put_other q k d a (apart q k e) ∙ later (apart q k e) ∙ sym (get_member-put_other q k d b (apart q k e))

pub put_over : (q k : List ℕ) (d : Data) (a b : Members) → ((q ≡ k → ⊥) → get_member q a ≡ get_member q b) → get_member q (put k d a) ≡ get_member q (put k d b)
put_over q k d a b later = put_over_at _ q k d a b refl later

sorted_head : (ocid date : List ℕ) (ms : Members) → IsSorted ms → IsSorted (put_head ocid date ms)
sorted_head ocid date ms h =
    let tagged : Members = put (codes "tag") compiled_tag ms in
    let dated : Members = put (codes "date") (string date) tagged in
    sorted_put (codes "id") (string (ocid ++ 45 ∷ date)) dated (sorted_put (codes "date") (string date) tagged (sorted_put (codes "tag") compiled_tag ms h))

head_over : (q ocid date : List ℕ) (a b : Members) → ((q ≡ codes "id" → ⊥) → (q ≡ codes "date" → ⊥) → (q ≡ codes "tag" → ⊥) → get_member q a ≡ get_member q b)
    → get_member q (put_head ocid date a) ≡ get_member q (put_head ocid date b)
head_over q ocid date a b others =
    let tagged : Members → Members = λ ms. put (codes "tag") compiled_tag ms in
    let dated : Members → Members = λ ms. put (codes "date") (string date) (tagged ms) in
    put_over q (codes "id") (string (ocid ++ 45 ∷ date)) (dated a) (dated b) (λ no_id.
    put_over q (codes "date") (string date) (tagged a) (tagged b) (λ no_date. put_over q (codes "tag") compiled_tag a b (others no_id no_date)))

objects_over : (M : List Data → Option Data) → M [] ≡ None → (ocid date : List ℕ) (run : List Members)
    → put_head ocid date (merge_objects M (map bare run)) ≡ put_head ocid date (merge_objects M run)
objects_over M none ocid date run =
    let bodies : Members = merge_objects M (map bare run) in
    let wholes : Members = merge_objects M run in
    same_members (put_head ocid date bodies) (put_head ocid date wholes) (sorted_head ocid date bodies (sorted_names M (map bare run) (names_in (map bare run)))) (sorted_head ocid date wholes (sorted_names M run (names_in run)))
    (λ q. head_over q ocid date bodies wholes (λ no_id no_date no_tag.
    get_objects M none (map bare run) q ∙ ap M (column_of_bodies q run no_id no_date no_tag) ∙ sym (get_objects M none run q)))

-- ---- at any depth

within_over : (n : ℕ) (ocid date : List ℕ) (vs : List Data) → with_head ocid date (unwrap_or (merge_within n (map body_of vs)) null) ≡ with_head ocid date (unwrap_or (merge_within n vs) null)
within_over zero ocid date vs = refl
within_over (suc n) ocid date [] = refl
within_over (suc n) ocid date (null ∷ vs) = refl
within_over (suc n) ocid date (boolean b ∷ vs) = refl
within_over (suc n) ocid date (number b ∷ vs) = refl
within_over (suc n) ocid date (string b ∷ vs) = refl
within_over (suc n) ocid date (array ds ∷ vs) =
    ap (λ (run : List Items). with_head ocid date (unwrap_or (cond (is_id_list ds) (Some (array (items_of (merge_items (merge_within n) (items_in run))))) (Some (array ds))) null))
    (lists_of_bodies (array ds ∷ vs))
within_over (suc n) ocid date (object ms ∷ vs) =
    ap (λ (run : List Members). object (put_head ocid date (merge_objects (merge_within n) (bare ms ∷ run)))) (objects_of_bodies vs)
    ∙ ap object (objects_over (merge_within n) (empty_to n) ocid date (ms ∷ object_run vs))

newest_over : (ocid date : List ℕ) (vs : List Data) → with_head ocid date (unwrap_or (merge_newest_first (map body_of vs)) null) ≡ with_head ocid date (unwrap_or (merge_newest_first vs) null)
newest_over ocid date vs =
    let n = suc (deepest_of (map body_of vs)) in
    let m = suc (deepest_of vs) in
    let headed : Option Data → Data = λ o. with_head ocid date (unwrap_or o null) in
    ap headed (agree n (n + m) (omega arith) (map body_of vs) (below_deepest (map body_of vs)))
    ∙ within_over (n + m) ocid date vs
    ∙ sym (ap headed (agree m (n + m) (omega arith) vs (below_deepest vs)))

reverse_map : (f : Data → Data) (vs : List Data) → reverse (map f vs) ≡ map f (reverse vs)
reverse_map f [] = refl
reverse_map f (v ∷ vs) =
    reverse-append (f v ∷ []) (map f vs) ∙ ap (λ (ws : List Data). ws ++ f v ∷ []) (reverse_map f vs) ∙ sym (map-append f (reverse vs) (v ∷ []))
    ∙ ap (map f) (sym (reverse-append (v ∷ []) vs))

pub head_stands_over : (ocid date : List ℕ) (vs : List Data) → with_head ocid date (merge_or_null (map body_of vs)) ≡ with_head ocid date (merge_or_null vs)
head_stands_over ocid date vs =
    ap (λ (ws : List Data). with_head ocid date (unwrap_or (merge_newest_first ws) null)) (reverse_map body_of vs) ∙ newest_over ocid date (reverse vs)
