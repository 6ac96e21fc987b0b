-- Lists and maps of the code, and the data that they mean.
use Rattle.ocds_merge.proofs.Names.{◌≡◌, ◌<◌, ◌+◌, ℕ, zero, suc, List, [], ◌∷◌, ◌++◌, map, take, drop, set, length, get_or, true, false, cond, Option, Some, None, option_map, unwrap_or, String, Global, Ordering, Less, Equal, Greater, string_bytes, string_cmp, nat_cmp, is_eq, bytes_eq, refl, sym, ap, ◌∙◌, subst, arith, rules, AllByRecursion, drop_more, get_or-map, length-map, set-set, map-set, map-append, IsStrictlySortedBy, keys_of, remove_entry, is_at, match_ordering, slice_cmp, Data, null, item, Members, member, view, items_view, members_view, Value, Null, the_lemmas, Entry, id_of, names_of, members_without, find_item, set_item, step, Lacks}
use Rattle.ocds_merge.proofs.MemberLemmas.{bytes_cmp}

pub lacks_push : (i : List ℕ) (ds : List Data) (d : Data) → Lacks i ds → bytes_eq (id_of d) i ≡ false → Lacks i (ds ++ d ∷ [])
lacks_push i [] d h e = (e, tt)
lacks_push i (x ∷ ds) d h e = (h.0, lacks_push i ds d h.1 e)

pub lacks_find : (i : List ℕ) (ds : List Data) → Lacks i ds → find_item i ds ≡ None
lacks_find i [] h = refl
lacks_find i (d ∷ ds) h = rw h.0 (lacks_find i ds h.1)

pub lacks_set : (i : List ℕ) (x : Data) (ds : List Data) → Lacks i ds → set_item i x ds ≡ ds ++ x ∷ []
lacks_set i x [] h = refl
lacks_set i x (d ∷ ds) h = rw h.0 (ap (λ (r : List Data). d ∷ r) (lacks_set i x ds h.1))

pub found_find : (i : List ℕ) (ds : List Data) (p : ℕ) → p < length ds → Lacks i (take p ds) → bytes_eq (id_of (get_or ds p null)) i ≡ true → find_item i ds ≡ Some (get_or ds p null)
found_find i [] p low h e = absurd (omega arith)
found_find i (d ∷ ds) zero low h e = rw e
found_find i (d ∷ ds) (suc p) low h e = rw h.0 (found_find i ds p (omega arith) h.1 e)

pub found_set : (i : List ℕ) (x : Data) (ds : List Data) (p : ℕ) → p < length ds → Lacks i (take p ds) → bytes_eq (id_of (get_or ds p null)) i ≡ true → set_item i x ds ≡ set ds p x
found_set i x [] p low h e = absurd (omega arith)
found_set i x (d ∷ ds) zero low h e = rw e
found_set i x (d ∷ ds) (suc p) low h e = rw h.0 (ap (λ (r : List Data). d ∷ r) (found_set i x ds p (omega arith) h.1 e))

removed_at : (o : Ordering) (e : Entry) (es rest : List Entry) (r : Members) → members_view rest ≡ r
    → members_view (cond (is_eq o) es (e ∷ rest)) ≡ match_ordering o (member (string_bytes e.0) (view e.1) r) (members_view es) (member (string_bytes e.0) (view e.1) r)
removed_at Less e es rest r h = ap (member (string_bytes e.0) (view e.1)) h
removed_at Equal e es rest r h = refl
removed_at Greater e es rest r h = ap (member (string_bytes e.0) (view e.1)) h

pub members_view-remove_entry : (name : List ℕ) (es : List Entry) → members_view (remove_entry (is_at (λ k. slice_cmp nat_cmp name (string_bytes k))) es) ≡ members_without name (members_view es)
members_view-remove_entry name [] = refl
members_view-remove_entry name (e ∷ es) = removed_at (slice_cmp nat_cmp name (string_bytes e.0)) e es _ _ (members_view-remove_entry name es)

above_names : (k : String Global) (es : List Entry) → AllByRecursion (λ y. string_cmp k y ≡ Less) (keys_of es) → AllByRecursion (λ y. bytes_cmp (string_bytes k) y ≡ Less) (names_of (members_view es))
above_names k [] h = tt
above_names k (e ∷ es) h = (h.0, above_names k es h.1)

pub sorted_names_of : (es : List Entry) → IsStrictlySortedBy string_cmp (keys_of es) → IsStrictlySortedBy bytes_cmp (names_of (members_view es))
unfolding IsStrictlySortedBy
sorted_names_of [] h = tt
sorted_names_of (e ∷ es) h = (above_names e.0 es h.0, sorted_names_of es h.1)

pub view_or : (o : Option Value) → view (unwrap_or o Null) ≡ unwrap_or (option_map view o) null
view_or None = search (rules, the_lemmas)
view_or (Some v) = refl

pub dropped : (xs : List Value) (i : ℕ) (x : Value) → i < length xs → x ≡ get_or xs i x → items_view (drop i xs) ≡ item (view x) (items_view (drop (i + 1) xs))
dropped xs i x low is = ap items_view (drop_more xs i x low) ∙ ap (λ (y : Value). item (view y) (items_view (drop (i + 1) xs))) (sym is)

-- the list after an item is merged into it
abbrev pub turned : Data → List Data → List Data
turned d ts = set_item (id_of d) (unwrap_or (step (find_item (id_of d) ts) d) null) ts

pub new_view : (new : Option Value) (b : Value) (o : Option Data) → b ≡ unwrap_or new Null → option_map view new ≡ o → view b ≡ unwrap_or o null
new_view new b o is e = ap view is ∙ view_or new ∙ ap (λ (r : Option Data). unwrap_or r null) e

pub found_turn : (xs : List Value) (p : ℕ) (a b old : Value) (new : Option Value) (id : List ℕ) (d : Data)
    → id ≡ id_of d → p < length xs → Lacks id (take p (map view xs)) → bytes_eq (id_of (get_or (map view xs) p null)) id ≡ true
    → old ≡ get_or xs p old → option_map view new ≡ step (Some (view old)) d → b ≡ unwrap_or new Null
    → map view (set (set xs p a) p b) ≡ turned d (map view xs)
found_turn xs p a b old new id d named low lacks has was made is =
    let ds : List Data = map view xs in
    let low' : p < length ds = omega (arith, length-map xs view) in
    let at : get_or ds p null ≡ view old = get_or-map view xs p old null low ∙ ap view (sym was) in
    let lacks' : Lacks (id_of d) (take p ds) = subst (λ (i : List ℕ). Lacks i (take p ds)) named lacks in
    let has' : bytes_eq (id_of (get_or ds p null)) (id_of d) ≡ true = subst (λ (i : List ℕ). bytes_eq (id_of (get_or ds p null)) i ≡ true) named has in
    let found : find_item (id_of d) ds ≡ Some (view old) = found_find (id_of d) ds p low' lacks' has' ∙ ap Some at in
    ap (map view) (set-set xs p a b) ∙ map-set view xs p b
    ∙ ap (λ (x : Data). set ds p x) (new_view new b _ is made ∙ ap (λ (o : Option Data). unwrap_or (step o d) null) (sym found))
    ∙ sym (found_set (id_of d) (unwrap_or (step (find_item (id_of d) ds) d) null) ds p low' lacks' has')

pub lacked_turn : (xs : List Value) (b : Value) (new : Option Value) (id : List ℕ) (d : Data)
    → id ≡ id_of d → Lacks id (map view xs) → option_map view new ≡ step None d → b ≡ unwrap_or new Null
    → map view (xs ++ b ∷ []) ≡ turned d (map view xs)
lacked_turn xs b new id d named lacks made is =
    let ds : List Data = map view xs in
    let lacks' : Lacks (id_of d) ds = subst (λ (i : List ℕ). Lacks i ds) named lacks in
    map-append view xs (b ∷ [])
    ∙ ap (λ (x : Data). ds ++ x ∷ []) (new_view new b _ is made ∙ ap (λ (o : Option Data). unwrap_or (step o d) null) (sym (lacks_find (id_of d) ds lacks')))
    ∙ sym (lacks_set (id_of d) (unwrap_or (step (find_item (id_of d) ds) d) null) ds lacks')
