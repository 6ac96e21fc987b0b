-- Items one after another: an old item is copied, or merged with the new one of its id; the remaining new items come at the end.
use Rattle.ocds_merge.proofs.Names.{◌≡◌, ℕ, ◌<◌, ◌+◌, zero, suc, List, [], ◌∷◌, ◌++◌, Bool, true, false, Option, Some, None, is_some, map, take, drop, set, length, get_or, replicate, refl, sym, ap, ◌∙◌, subst, arith, bytes_eq, append_assoc, unwrap_or, true≢false, bytes_eq-Decides, Data, null, array, Items, no_items, item, view, items_of, items_view, Value, id_of, text_id, all_have_id, IsProper, Lacks, step, step_items, find_item, set_item, items_list, id_list_of, HaveDistinctIds, alone, unless, pending, with_item, step_list, TextIsKept, AreItemsKept}
use Rattle.ocds_merge.proofs.CodeLemmas.{lacks_push, lacks_find, lacks_set}
use Rattle.ocds_merge.proofs.ItemLaw.{flipped}
use Rattle.ocds_merge.proofs.IdLaw.{kept_id, first_id, other_ids}
use Rattle.ocds_merge.proofs.KeptLaw.{kept_proper}

-- ---- ids

pub lacks_take : (i : List ℕ) (n : ℕ) (ds : List Data) → Lacks i ds → Lacks i (take n ds)
lacks_take i zero ds h = tt
lacks_take i (suc n) [] h = tt
lacks_take i (suc n) (d ∷ ds) h = (h.0, lacks_take i n ds h.1)

pub distinct_push : (ds : List Data) (d : Data) → HaveDistinctIds ds → Lacks (id_of d) ds → HaveDistinctIds (ds ++ d ∷ [])
distinct_push [] d h l = (tt, tt)
distinct_push (x ∷ ds) d h l = (lacks_push (id_of x) ds d h.0 (flipped (id_of x) (id_of d) l.0), distinct_push ds d h.1 l.1)

pub lacks_pending : (i : List ℕ) (ds : List Data) (done : List Bool) → Lacks i ds → Lacks i (pending ds done)
lacks_pending i [] done h = tt
lacks_pending i (d ∷ ds) [] h = h
lacks_pending i (d ∷ ds) (true ∷ done) h = lacks_pending i ds done h.1
lacks_pending i (d ∷ ds) (false ∷ done) h = (h.0, lacks_pending i ds done h.1)

pub distinct_pending : (ds : List Data) (done : List Bool) → HaveDistinctIds ds → HaveDistinctIds (pending ds done)
distinct_pending [] done h = tt
distinct_pending (d ∷ ds) [] h = h
distinct_pending (d ∷ ds) (true ∷ done) h = distinct_pending ds done h.1
distinct_pending (d ∷ ds) (false ∷ done) h = (lacks_pending (id_of d) ds done h.0, distinct_pending ds done h.1)

-- each is an object with an id, and a merge keeps its id
abbrev pub KeepIds : List Data → Type 0
KeepIds [] = Unit {0}
KeepIds (d ∷ ds) = (IsProper d × (is_some (text_id d) ≡ true)) × KeepIds ds

pub keep_pending : (ds : List Data) (done : List Bool) → KeepIds ds → KeepIds (pending ds done)
keep_pending [] done h = tt
keep_pending (d ∷ ds) [] h = h
keep_pending (d ∷ ds) (true ∷ done) h = keep_pending ds done h.1
keep_pending (d ∷ ds) (false ∷ done) h = (h.0, keep_pending ds done h.1)

pub keep_ids : (ds : List Data) → AreItemsKept (items_of ds) → all_have_id (items_of ds) ≡ true → KeepIds ds
keep_ids [] h e = tt
keep_ids (d ∷ ds) h e = ((kept_proper d h.0, first_id (is_some (text_id d)) (all_have_id (items_of ds)) e), keep_ids ds h.1 (other_ids (is_some (text_id d)) (all_have_id (items_of ds)) e))

-- ---- an old item that none of the new ones touches

set_apart : (i : List ℕ) (x t : Data) (ts : List Data) → bytes_eq (id_of t) i ≡ false → set_item i x (t ∷ ts) ≡ t ∷ set_item i x ts
set_apart i x t ts e = rw e refl

find_apart : (i : List ℕ) (t : Data) (ts : List Data) → bytes_eq (id_of t) i ≡ false → find_item i (t ∷ ts) ≡ find_item i ts
find_apart i t ts e = rw e refl

apart_with : (t d : Data) (ts : List Data) → bytes_eq (id_of t) (id_of d) ≡ false → with_item d (t ∷ ts) ≡ t ∷ with_item d ts
apart_with t d ts e =
    ap (λ (o : Option Data). set_item (id_of d) (unwrap_or (step o d) null) (t ∷ ts)) (find_apart (id_of d) t ts e)
    ∙ set_apart (id_of d) (unwrap_or (step (find_item (id_of d) ts) d) null) t ts e

pub stays : (t : Data) (ts ps : List Data) → Lacks (id_of t) ps → step_list (t ∷ ts) ps ≡ t ∷ step_list ts ps
stays t ts [] h = refl
stays t ts (p ∷ ps) h =
    ap (λ (x : List Data). step_list x ps) (apart_with t p ts (flipped (id_of p) (id_of t) h.0)) ∙ stays t (with_item p ts) ps h.1

-- ---- an old item that is merged

abbrev pub merged_with : Data → Data → Data
merged_with t d = unwrap_or (step (Some t) d) null

set_here : (i : List ℕ) (x t : Data) (ts : List Data) → bytes_eq (id_of t) i ≡ true → set_item i x (t ∷ ts) ≡ x ∷ ts
set_here i x t ts e = rw e refl

find_here : (i : List ℕ) (t : Data) (ts : List Data) → bytes_eq (id_of t) i ≡ true → find_item i (t ∷ ts) ≡ Some t
find_here i t ts e = rw e refl

met_with : (t d : Data) (ts : List Data) → bytes_eq (id_of t) (id_of d) ≡ true → with_item d (t ∷ ts) ≡ merged_with t d ∷ ts
met_with t d ts e =
    ap (λ (o : Option Data). set_item (id_of d) (unwrap_or (step o d) null) (t ∷ ts)) (find_here (id_of d) t ts e) ∙ set_here (id_of d) (merged_with t d) t ts e

same_id : (t d : Data) (x : List ℕ) → bytes_eq (id_of t) (id_of d) ≡ true → bytes_eq (id_of d) x ≡ false → bytes_eq (id_of t) x ≡ false
same_id t d x e f = subst (λ (i : List ℕ). bytes_eq i x ≡ false) (sym ((bytes_eq-Decides (id_of t) (id_of d)).0 e)) f

lacks_at : (i : List ℕ) (ds : List Data) (k : ℕ) → k < length ds → Lacks i ds → bytes_eq (id_of (get_or ds k null)) i ≡ false
lacks_at i [] k low h = absurd (omega arith)
lacks_at i (d ∷ ds) zero low h = h.0
lacks_at i (d ∷ ds) (suc k) low h = lacks_at i ds k (omega arith) h.1

pub meets : (ds : List Data) (done : List Bool) (k : ℕ) (t : Data) (ts : List Data) → k < length ds → length done ≡ length ds → get_or done k true ≡ false
    → bytes_eq (id_of t) (id_of (get_or ds k null)) ≡ true → HaveDistinctIds ds → KeepIds ds
    → step_list (t ∷ ts) (pending ds done) ≡ merged_with t (get_or ds k null) ∷ step_list ts (pending ds (set done k true))
meets [] done k t ts low len free same distinct keep = absurd (omega arith)
meets (d ∷ ds) [] k t ts low len free same distinct keep = absurd (omega arith)
meets (d ∷ ds) (true ∷ done) zero t ts low len free same distinct keep = absurd (true≢false free)
meets (d ∷ ds) (false ∷ done) zero t ts low len free same distinct keep =
    let x = merged_with t d in
    let id : id_of x ≡ id_of d = kept_id (Some t) d keep.0.0 keep.0.1 in
    ap (λ (y : List Data). step_list y (pending ds done)) (met_with t d ts same)
    ∙ stays x ts (pending ds done) (subst (λ (i : List ℕ). Lacks i (pending ds done)) (sym id) (lacks_pending (id_of d) ds done distinct.0))
meets (d ∷ ds) (true ∷ done) (suc k) t ts low len free same distinct keep = meets ds done k t ts (omega arith) (omega arith) free same distinct.1 keep.1
meets (d ∷ ds) (false ∷ done) (suc k) t ts low len free same distinct keep =
    ap (λ (y : List Data). step_list y (pending ds done)) (apart_with t d ts (same_id t (get_or ds k null) (id_of d) same (lacks_at (id_of d) ds k (omega arith) distinct.0)))
    ∙ meets ds done k t (with_item d ts) (omega arith) (omega arith) free same distinct.1 keep.1

-- ---- the new items at the end

abbrev NoneOf : List Data → List Data → Type 0
NoneOf [] ws = Unit {0}
NoneOf (p ∷ ps) ws = Lacks (id_of p) ws × NoneOf ps ws

none_of_push : (ps ws : List Data) (p : Data) → Lacks (id_of p) ps → IsProper p → is_some (text_id p) ≡ true → NoneOf ps ws → NoneOf ps (ws ++ alone p ∷ [])
none_of_push [] ws p h q e n = tt
none_of_push (x ∷ ps) ws p h q e n =
    let id : id_of (alone p) ≡ id_of p = kept_id None p q e in
    (lacks_push (id_of x) ws (alone p) n.0 (subst (λ (i : List ℕ). bytes_eq i (id_of x) ≡ false) (sym id) (flipped (id_of x) (id_of p) h.0)), none_of_push ps ws p h.1 q e n.1)

comes_last : (ws ps : List Data) → NoneOf ps ws → HaveDistinctIds ps → KeepIds ps → step_list ws ps ≡ ws ++ map alone ps
comes_last ws [] n d k = sym (append_nil ws)
  where
    append_nil : (xs : List Data) → xs ++ [] ≡ xs
    append_nil [] = refl
    append_nil (x ∷ xs) = ap (λ (r : List Data). x ∷ r) (append_nil xs)
comes_last ws (p ∷ ps) n d k =
    ap (λ (x : List Data). step_list x ps)
    (ap (λ (o : Option Data). set_item (id_of p) (unwrap_or (step o p) null) ws) (lacks_find (id_of p) ws n.0) ∙ lacks_set (id_of p) (alone p) ws n.0)
    ∙ comes_last (ws ++ alone p ∷ []) ps (none_of_push ps ws p d.0 k.0.0 k.0.1 n.1) d.1 k.1
    ∙ append_assoc ws (alone p ∷ []) (map alone ps)

none_of_empty : (ps : List Data) → NoneOf ps []
none_of_empty [] = tt
none_of_empty (p ∷ ps) = (tt, none_of_empty ps)

pub all_new : (ps : List Data) → HaveDistinctIds ps → KeepIds ps → step_list [] ps ≡ map alone ps
all_new ps d k = comes_last [] ps (none_of_empty ps) d k

-- ---- lists and their data

pub step_items-list : (ts ds : List Data) → step_items ts (items_of ds) ≡ step_list ts ds
step_items-list ts [] = refl
step_items-list ts (d ∷ ds) = step_items-list (with_item d ts) ds

pub none_pending : (ds : List Data) (n : ℕ) → n ≡ length ds → pending ds (replicate n false) ≡ ds
none_pending [] n e = refl
none_pending (d ∷ ds) zero e = absurd (omega arith)
none_pending (d ∷ ds) (suc n) e = ap (λ (r : List Data). d ∷ r) (none_pending ds n (omega arith))

pub old_list : (ds : Items) → all_have_id ds ≡ true → id_list_of (Some (array ds)) ≡ items_list ds
old_list no_items e = refl
old_list (item d ds) e = rw e refl

-- ---- the text of the pending items

pending_item : (d : Data) (ds : List Data) (is_done : Bool) (done : List Bool) → items_of (map alone (pending (d ∷ ds) (is_done ∷ done))) ≡ unless is_done (alone d) (items_of (map alone (pending ds done)))
pending_item d ds true done = refl
pending_item d ds false done = refl

pub pending_turn : (xs : List Value) (done : List Bool) (i : ℕ) (x : Value) (is_done : Bool) → drop i xs ≡ x ∷ drop (i + 1) xs → drop i done ≡ is_done ∷ drop (i + 1) done
    → items_of (map alone (pending (map view (drop i xs)) (drop i done))) ≡ unless is_done (alone (view x)) (items_of (map alone (pending (map view (drop (i + 1) xs)) (drop (i + 1) done))))
pending_turn xs done i x is_done a b =
    ap (λ (ys : List Value). items_of (map alone (pending (map view ys) (drop i done)))) a
    ∙ ap (λ (bs : List Bool). items_of (map alone (pending (view x ∷ map view (drop (i + 1) xs)) bs))) b
    ∙ pending_item (view x) (map view (drop (i + 1) xs)) is_done (drop (i + 1) done)

pub item_kept : (xs : List Value) (i : ℕ) (x : Value) → i < length xs → x ≡ get_or xs i x → AreItemsKept (items_view xs) → TextIsKept (view x)
item_kept [] i x low e h = absurd (omega arith)
item_kept (y ∷ xs) zero x low e h = subst (λ (z : Value). TextIsKept (view z)) (sym e) h.0
item_kept (y ∷ xs) (suc i) x low e h = item_kept xs i x (omega arith) e h.1
