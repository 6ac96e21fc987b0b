-- One old item in the text of an id list is merged or copied, and an object or a list is merged into one of its kind.
use Rattle.ocds_merge.proofs.Names.{◌≡◌, ℕ, ◌<◌, List, [], ◌∷◌, ◌++◌, Bool, true, false, Option, Some, is_some, map, set, get_or, length, refl, sym, ap, ◌∙◌, subst, append_assoc, unwrap_or, arith, bytes_eq, bytes_eq-Decides, Data, null, array, object, Items, no_items, item, Members, view, items_of, items_view, Value, compact_text, items_text, members_text, comma_if, id_of, text_id, all_have_id, is_id_list, Lacks, step, step_items, step_members, items_list, id_list_of, HaveDistinctIds, alone, pending, step_list, TextIsKept, AreItemsKept, EndsBefore, no_comma, SameItems, ItemsMerged}
use Rattle.ocds_merge.proofs.SpliceLaw.{heads, tails}
use Rattle.ocds_merge.proofs.ListTextLaw.{led, opens_well, item_first, no_comma_items, ends_before_items}
use Rattle.ocds_merge.proofs.PendingLaw.{KeepIds, keep_ids, keep_pending, distinct_pending, lacks_pending, stays, meets, merged_with, all_new, step_items-list, old_list}

-- ---- one item

grouped : (old comma x y : List ℕ) → (old ++ (comma ++ x)) ++ y ≡ old ++ (comma ++ (x ++ y))
grouped old comma x y = simp append_assoc

item_written : (x : Data) (after before : List Data) (old new : List ℕ) (later : Bool) → new ≡ old ++ (comma_if later ++ compact_text x) → before ≡ x ∷ after → SameItems old later before new true after
item_written x after before old new later a is =
    ap (λ (s : List ℕ). s ++ items_text true (items_of after)) a
    ∙ grouped old (comma_if later) (compact_text x) (items_text true (items_of after))
    ∙ ap (λ (r : List Data). old ++ items_text later (items_of r)) (sym is)

same_id : (t : Data) (id : List ℕ) → text_id t ≡ Some id → id_of t ≡ id
same_id t id e = ap (λ (o : Option (List ℕ)). unwrap_or o []) e

pub item_copied : (t : Data) (id : List ℕ) (ds : List Data) (done : List Bool) (old new : List ℕ) (later : Bool) → text_id t ≡ Some id → Lacks id ds
    → new ≡ old ++ (comma_if later ++ compact_text t) → (ts : List Data) → SameItems old later (step_list (t ∷ ts) (pending ds done)) new true (step_list ts (pending ds done))
item_copied t id ds done old new later named lacks a ts =
    item_written t (step_list ts (pending ds done)) _ old new later a
    (stays t ts (pending ds done) (lacks_pending (id_of t) ds done (subst (λ (i : List ℕ). Lacks i ds) (sym (same_id t id named)) lacks)))

pub item_met : (t d : Data) (id : List ℕ) (ds : List Data) (done done' : List Bool) (k : ℕ) (old mid new : List ℕ) (later : Bool) → text_id t ≡ Some id → k < length ds → length done ≡ length ds
    → get_or done k true ≡ false → done' ≡ set done k true → d ≡ get_or ds k null → bytes_eq (id_of (get_or ds k null)) id ≡ true → HaveDistinctIds ds → KeepIds ds
    → mid ≡ old ++ comma_if later → new ≡ mid ++ compact_text (unwrap_or (step (Some t) d) null)
    → (ts : List Data) → SameItems old later (step_list (t ∷ ts) (pending ds done)) new true (step_list ts (pending ds done'))
item_met t d id ds done done' k old mid new later named low len free is_set at has distinct keep a b ts =
    let same : bytes_eq (id_of t) (id_of (get_or ds k null)) ≡ true =
    (bytes_eq-Decides (id_of t) (id_of (get_or ds k null))).1 (same_id t id named ∙ sym ((bytes_eq-Decides (id_of (get_or ds k null)) id).0 has)) in
    item_written (merged_with t (get_or ds k null)) (step_list ts (pending ds done')) _ old new later
    (b ∙ ap (λ (x : Data). mid ++ compact_text (merged_with t x)) at ∙ ap (λ (s : List ℕ). s ++ compact_text (merged_with t (get_or ds k null))) a ∙ append_assoc old (comma_if later) _)
    (meets ds done k t ts low len free same distinct keep
    ∙ ap (λ (m : List Bool). merged_with t (get_or ds k null) ∷ step_list ts (pending ds m)) (sym is_set))

-- ---- the items, one after another

pub items_none : (text : List ℕ) (ds : Items) (ps : List Data) (rest old : List ℕ) → AreItemsKept ds → text ≡ items_text false ds ++ rest → ItemsMerged ds ps rest old text old false ps
items_none text ds ps rest old kept is = record { others = ds; stands = ap no_comma is ∙ no_comma_items false ds rest kept; kept = kept; ids = λ e. e; same = refl }

pub items_one : (ds : Items) (ps : List Data) (rest old left new : List ℕ) (more : Bool) (pend : List Data) (whole s left' new' : List ℕ) (pend' : List Data)
    → ItemsMerged ds ps rest old left new more pend → no_comma left ≡ whole → whole ≡ 123 ∷ s
    → ((t : Data) (r : List ℕ) → TextIsKept t → EndsBefore r → whole ≡ compact_text t ++ r
    → (left' ≡ r) × (is_some (text_id t) ≡ true) × ((ts : List Data) → SameItems new more (step_list (t ∷ ts) pend) new' true (step_list ts pend')))
    → ItemsMerged ds ps rest old left' new' true pend'
items_one ds ps rest old left new more pend whole s left' new' pend' m is form = go m.others m.stands m.kept m.ids m.same
  where
    go : (os : Items) → no_comma left ≡ items_text false os ++ rest → AreItemsKept os → (all_have_id os ≡ true → all_have_id ds ≡ true)
        → SameItems old false (step_list (items_list ds) ps) new more (step_list (items_list os) pend)
        → ((t : Data) (r : List ℕ) → TextIsKept t → EndsBefore r → whole ≡ compact_text t ++ r
        → (left' ≡ r) × (is_some (text_id t) ≡ true) × ((ts : List Data) → SameItems new more (step_list (t ∷ ts) pend) new' true (step_list ts pend')))
        → ItemsMerged ds ps rest old left' new' true pend'
    go no_items stands kept ids same turn = absurd (let e : 93 ≡ 123 = heads 93 123 rest s (sym stands ∙ is ∙ form) in omega (arith, e))
    go (item t os) stands kept ids same turn =
        let r = turn t (items_text true os ++ rest) kept.0 (ends_before_items os rest) (sym is ∙ stands ∙ item_first t os rest) in
        record {
          others = os;
          stands = ap no_comma r.0 ∙ no_comma_items true os rest kept.1;
          kept = kept.1;
          ids = λ e. ids (rw r.1 e);
          same = r.2 (items_list os) ∙ same;
        }

pub items_end : (ds : Items) (ps : List Data) (rest old left new : List ℕ) (more : Bool) (pend : List Data) (s : List ℕ) → ItemsMerged ds ps rest old left new more pend → no_comma left ≡ 93 ∷ s
    → (no_comma left ≡ 93 ∷ rest) × (all_have_id ds ≡ true) × SameItems old false (step_list (items_list ds) ps) new more (step_list [] pend)
items_end ds ps rest old left new more pend s m is = go m.others m.stands m.kept m.ids m.same
  where
    go : (os : Items) → no_comma left ≡ items_text false os ++ rest → AreItemsKept os → (all_have_id os ≡ true → all_have_id ds ≡ true)
        → SameItems old false (step_list (items_list ds) ps) new more (step_list (items_list os) pend)
        → (no_comma left ≡ 93 ∷ rest) × (all_have_id ds ≡ true) × SameItems old false (step_list (items_list ds) ps) new more (step_list [] pend)
    go no_items stands kept ids same = (stands, ids refl, same)
    go (item t os) stands kept ids same =
        let l = led t (items_text true os ++ rest) kept.0 in
        absurd ((opens_well t l.first l.lead).0 (heads l.first 93 l.after s (sym (stands ∙ item_first t os rest ∙ l.is) ∙ is)))

pub closed_at : (xs ys : List Value) (done marks : List Bool) (A : Type 0) (new' new : List ℕ) (later : Bool) → ys ≡ xs → marks ≡ done
    → (AreItemsKept (items_view ys) → A × (new' ≡ new ++ items_text later (items_of (map alone (pending (map view ys) marks)))))
    → AreItemsKept (items_view xs) → A × (new' ≡ new ++ items_text later (items_of (map alone (pending (map view xs) done))))
closed_at xs ys done marks A new' new later e f h =
    subst (λ (zs : List Value). AreItemsKept (items_view zs) → A × (new' ≡ new ++ items_text later (items_of (map alone (pending (map view zs) done))))) e
    (λ kept. ((h kept).0, (h kept).1 ∙ ap (λ (bs : List Bool). new ++ items_text later (items_of (map alone (pending (map view ys) bs)))) f))

pub list_merged : (xs : List Value) (ds : Items) (first out new' rest left rest' : List ℕ) (later : Bool) (done done' : List Bool) (new : List ℕ) → all_have_id (items_view xs) ≡ true → HaveDistinctIds (map view xs)
    → AreItemsKept (items_view xs) → out ≡ first ++ 91 ∷ [] → pending (map view xs) done ≡ map view xs
    → (no_comma left ≡ 93 ∷ rest) × (all_have_id ds ≡ true) × SameItems out false (step_list (items_list ds) (pending (map view xs) done)) new later (step_list [] (pending (map view xs) done'))
    → (no_comma left ≡ 93 ∷ rest') × (new' ≡ new ++ items_text later (items_of (map alone (pending (map view xs) done'))))
    → (rest' ≡ rest) × (new' ≡ first ++ 91 ∷ items_text false (items_of (step_items (id_list_of (Some (array ds))) (items_view xs))))
list_merged xs ds first out new' rest left rest' later done done' new ids distinct kept is none ends closes =
    let vs = map view xs in
    let ps = pending vs done' in
    let news : step_list [] ps ≡ map alone ps = all_new ps (distinct_pending vs done' distinct) (keep_pending vs done' (keep_ids vs kept ids)) in
    let whole : step_list (items_list ds) (pending vs done) ≡ step_items (id_list_of (Some (array ds))) (items_view xs) =
    ap (step_list (items_list ds)) none ∙ sym (step_items-list (items_list ds) vs) ∙ ap (λ (ts : List Data). step_items ts (items_view xs)) (sym (old_list ds ends.1)) in (
      tails 93 93 rest' rest (sym closes.0 ∙ ends.0),
      closes.1 ∙ ap (λ (r : List Data). new ++ items_text later (items_of r)) (sym news) ∙ ends.2
          ∙ ap (λ (r : List Data). out ++ items_text false (items_of r)) whole
          ∙ ap (λ (o : List ℕ). o ++ items_text false (items_of (step_items (id_list_of (Some (array ds))) (items_view xs)))) is
          ∙ append_assoc first (91 ∷ []) _,
    )

-- ---- an object into an object, an id list into an array

pub object_merged : (v d : Data) (ms ts : Members) (out new : List ℕ) → v ≡ object ms → d ≡ object ts → new ≡ out ++ 123 ∷ members_text false (step_members ts ms)
    → new ≡ out ++ compact_text (unwrap_or (step (Some d) v) null)
object_merged v d ms ts out new v_is d_is e =
    e ∙ ap (λ (x : Data). out ++ compact_text x) (sym (ap (λ (x : Data). unwrap_or (step (Some x) v) null) d_is ∙ ap (λ (y : Data). unwrap_or (step (Some (object ts)) y) null) v_is))

list_step : (is ds : Items) → is_id_list is ≡ true → unwrap_or (step (Some (array ds)) (array is)) null ≡ array (items_of (step_items (id_list_of (Some (array ds))) is))
list_step is ds e = rw e refl

pub array_merged : (v d : Data) (is ds : Items) (out new : List ℕ) → v ≡ array is → d ≡ array ds → is_id_list is ≡ true
    → new ≡ out ++ 91 ∷ items_text false (items_of (step_items (id_list_of (Some (array ds))) is)) → new ≡ out ++ compact_text (unwrap_or (step (Some d) v) null)
array_merged v d is ds out new v_is d_is list e =
    e ∙ ap (λ (x : Data). out ++ compact_text x)
    (sym (ap (λ (x : Data). unwrap_or (step (Some x) v) null) d_is ∙ ap (λ (y : Data). unwrap_or (step (Some (array ds)) y) null) v_is ∙ list_step is ds list))
