-- Places by id: the index of a list after a change of the list.
use Rattle.ocds_merge.proofs.Names.{◌≡◌, ◌<◌, ℕ, zero, suc, List, [], ◌∷◌, ◌++◌, map, set, length, get_or, Bool, true, false, cond, Option, Some, None, is_some, option_map, String, Global, refl, sym, ap, ◌∙◌, subst, arith, bytes_eq, true≢false, length-map, set-set, map-set, map-append, BTreeMap, get_by_text, bytes_eq-Decides, Data, null, view, Value, id_of, Lacks, IsPlaceOf, place_in, IsIndexOf, IndexServes}

-- ---- places

stands_at : (b : Bool) (o : Option ℕ) (i : List ℕ) (d : Data) (ds : List Data) → bytes_eq (id_of d) i ≡ b → IsPlaceOf o i ds
    → IsPlaceOf (cond b (Some 0) (option_map suc o)) i (d ∷ ds)
stands_at true o i d ds e h = (omega arith, tt, e)
stands_at false None i d ds e h = (e, h)
stands_at false (Some p) i d ds e h = (omega (arith, h.0), (e, h.1), h.2)

pub stands : (i : List ℕ) (ds : List Data) → IsPlaceOf (place_in i ds) i ds
stands i [] = tt
stands i (d ∷ ds) = stands_at _ _ i d ds refl (stands i ds)

lacks_place : (i : List ℕ) (ds : List Data) → Lacks i ds → place_in i ds ≡ None
lacks_place i [] h = refl
lacks_place i (d ∷ ds) h = rw (h.0, lacks_place i ds h.1)

lacks_at : (o : Option ℕ) (i : List ℕ) (ds : List Data) → IsPlaceOf o i ds → is_some o ≡ false → Lacks i ds
lacks_at None i ds h e = h
lacks_at (Some p) i ds h e = absurd (true≢false e)

pub lacks_from : (i : List ℕ) (ds : List Data) → is_some (place_in i ds) ≡ false → Lacks i ds
lacks_from i ds e = lacks_at (place_in i ds) i ds (stands i ds) e

-- the places after an item replaces one with the same id
pub place_set : (i : List ℕ) (ds : List Data) (p : ℕ) (x : Data) → p < length ds → id_of x ≡ id_of (get_or ds p null) → place_in i (set ds p x) ≡ place_in i ds
place_set i [] p x low e = absurd (omega arith)
place_set i (d ∷ ds) zero x low e = ap (λ (j : List ℕ). cond (bytes_eq j i) (Some 0) (option_map suc (place_in i ds))) e
place_set i (d ∷ ds) (suc p) x low e = ap (λ (o : Option ℕ). cond (bytes_eq (id_of d) i) (Some 0) (option_map suc o)) (place_set i ds p x (omega arith) e)

-- ---- one more item

abbrev or_else : Option ℕ → Option ℕ → Option ℕ
or_else None o = o
or_else (Some p) o = Some p

or_none : (o : Option ℕ) → or_else o None ≡ o
or_none None = refl
or_none (Some p) = refl

pushed_at : (a b : Bool) (o p : Option ℕ) (n : ℕ) → p ≡ or_else o (cond b (Some n) None)
    → cond a (Some 0) (option_map suc p) ≡ or_else (cond a (Some 0) (option_map suc o)) (cond b (Some (suc n)) None)
pushed_at true b o p n h = refl
pushed_at false true None p n h = ap (option_map suc) h
pushed_at false false None p n h = ap (option_map suc) h
pushed_at false b (Some q) p n h = ap (option_map suc) h

pushed : (i : List ℕ) (ds : List Data) (d : Data) → place_in i (ds ++ d ∷ []) ≡ or_else (place_in i ds) (cond (bytes_eq (id_of d) i) (Some (length ds)) None)
pushed i [] d = refl
pushed i (x ∷ ds) d = pushed_at (bytes_eq (id_of x) i) (bytes_eq (id_of d) i) (place_in i ds) _ (length ds) (pushed i ds d)

new_at : (b : Bool) (i : List ℕ) (ds : List Data) (d : Data) → bytes_eq (id_of d) i ≡ b → place_in (id_of d) ds ≡ None
    → or_else (place_in i ds) (cond b (Some (length ds)) None) ≡ cond b (Some (length ds)) (place_in i ds)
new_at true i ds d e h =
    ap (λ (o : Option ℕ). or_else o (Some (length ds))) (subst (λ (j : List ℕ). place_in j ds ≡ None) ((bytes_eq-Decides (id_of d) i).0 e) h)
new_at false i ds d e h = or_none (place_in i ds)

pub index_push : (m n : BTreeMap (String Global) ℕ) (ds : List Data) (d : Data) → IsIndexOf m ds → Lacks (id_of d) ds
    → ((i : List ℕ) → get_by_text n i ≡ cond (bytes_eq (id_of d) i) (Some (length ds)) (get_by_text m i)) → IsIndexOf n (ds ++ d ∷ [])
index_push m n ds d h lacks puts = λ i.
    puts i ∙ ap (λ (o : Option ℕ). cond (bytes_eq (id_of d) i) (Some (length ds)) o) (h i)
    ∙ sym (pushed i ds d ∙ new_at _ i ds d refl (lacks_place (id_of d) ds lacks))

some_or : (o p : Option ℕ) → is_some o ≡ true → or_else o p ≡ o
some_or None p e = absurd (true≢false (sym e))
some_or (Some q) p e = refl

known_at : (b : Bool) (i : List ℕ) (ds : List Data) (d : Data) → bytes_eq (id_of d) i ≡ b → is_some (place_in (id_of d) ds) ≡ true
    → or_else (place_in i ds) (cond b (Some (length ds)) None) ≡ place_in i ds
known_at true i ds d e h = some_or (place_in i ds) _ (subst (λ (j : List ℕ). is_some (place_in j ds) ≡ true) ((bytes_eq-Decides (id_of d) i).0 e) h)
known_at false i ds d e h = or_none (place_in i ds)

pub index_known : (m : BTreeMap (String Global) ℕ) (ds : List Data) (d : Data) → IsIndexOf m ds → is_some (place_in (id_of d) ds) ≡ true
    → IsIndexOf m (ds ++ d ∷ [])
index_known m ds d h known = λ i. h i ∙ sym (pushed i ds d ∙ known_at _ i ds d refl known)

-- an index of a list is an index of the list in which an item replaced one with the same id
pub serves_set : (kept : Option (BTreeMap (String Global) ℕ)) (ds : List Data) (p : ℕ) (x : Data) → IndexServes kept ds → p < length ds
    → id_of x ≡ id_of (get_or ds p null) → IndexServes kept (set ds p x)
serves_set None ds p x h low e = tt
serves_set (Some m) ds p x h low e = λ i. h i ∙ sym (place_set i ds p x low e)

-- ---- the code's items

pub found_serves : (kept : Option (BTreeMap (String Global) ℕ)) (xs : List Value) (p : ℕ) (a b : Value) (id : List ℕ) → IndexServes kept (map view xs)
    → p < length xs → bytes_eq (id_of (get_or (map view xs) p null)) id ≡ true → id_of (view b) ≡ id → IndexServes kept (map view (set (set xs p a) p b))
found_serves kept xs p a b id h low has same =
    let ds : List Data = map view xs in
    let is : map view (set (set xs p a) p b) ≡ set ds p (view b) = ap (map view) (set-set xs p a b) ∙ map-set view xs p b in
    let unchanged : id_of (view b) ≡ id_of (get_or ds p null) = same ∙ sym ((bytes_eq-Decides (id_of (get_or ds p null)) id).0 has) in
    subst (λ (es : List Data). IndexServes kept es) (sym is) (serves_set kept ds p (view b) h (omega (arith, length-map xs view)) unchanged)

pub pushed_serves : (kept : Option (BTreeMap (String Global) ℕ)) (xs : List Value) (b : Value) → IndexServes kept (map view xs ++ view b ∷ [])
    → IndexServes kept (map view (xs ++ b ∷ []))
pushed_serves kept xs b h = subst (λ (es : List Data). IndexServes kept es) (sym (map-append view xs (b ∷ []))) h
