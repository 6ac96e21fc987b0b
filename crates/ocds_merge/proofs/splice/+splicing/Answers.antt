use Rattle.ocds_merge.proofs.Names.{◌≡◌, ◌<◌, ◌∙◌, ◌++◌, ◌∷◌, [], ℕ, List, true, false, sym, subst, ap, map, take, get_or, is_some, length, bytes_eq, arith, refl, get_or-map, length-map, IfOk-weaker, null, Members, member, object, array, view, items_view, members_view, compact_text, Value, Entry, view-Array, view-Object, id_of, is_id_list, scan, Lacks, TextIsKept, Merged, HaveDistinctIds, pending}
use Rattle.ocds_merge.specs.Inside.Scan.{between}
use Rattle.ocds_merge.proofs.SpliceLaw.{some_case, none_case, ends_before_members, scan-value}
use Rattle.ocds_merge.proofs.MemberTurn.{old_kept, past_old, old_passed, null_found, null_absent, some_found, some_absent, merged_none, merged_one, merged_all}
use Rattle.ocds_merge.proofs.ListTextLaw.{opened, opened_list}
use Rattle.ocds_merge.proofs.PendingLaw.{keep_ids, item_kept, none_pending}
use Rattle.ocds_merge.proofs.ListTurn.{item_copied, item_met, items_none, items_one, items_end, closed_at, list_merged, object_merged, array_merged}
use Rattle.ocds_merge.proofs.PassLaw.{items_over, item_read, member_read, members_begun, object_inside, array_inside}
use Rattle.ocds_merge.proofs.splice.+splicing.Goals as goal

-- ---- a member

pub splice_member-returns-in_ok-rest-in-Some : goal.splice_member-returns-in_ok-rest-in-Some
splice_member-returns-in_ok-rest-in-Some t c =
    let left = c.args.left in
    let old = c.in-Some.old in
    let next = some_case _ _ c.in_ok-old.old old c.in-Some.is c.in_ok-old.ensures.reads in
    let past = c.in_ok-rest-in-Some.ensures in
    record {
      reads = λ rest r. member_read left.text.now left.later left.last.now old.name.now old.value.now c.in_ok-rest-in-Some.rest.now c.args.depth next past.reads rest r;
      splices = λ kept ms ts rest h start above.
          let name = c.args.name.now in
          let w = some_case _ _ c.in_ok-old.old old c.in-Some.is (c.in_ok-old.ensures.finds ts rest h start) in (
            w.others,
            past_old name old.value.now left.text.now ts rest w h c.in_ok-rest-in-Some.rest.now (past.scans ∙ old_passed name old.value.now left.text.now ts rest w h),
            null_found name old.value.now left.text.now (view c.args.value.now) ts ms rest c.args.out.now.items c.args.later w h above c.if-is_null.ensures,
          );
    }

pub splice_member-returns-in-None : goal.splice_member-returns-in-None
splice_member-returns-in-None t c = record {
  reads = λ rest r. r;
  splices = λ kept ms ts rest h start above.
      let lacks = none_case _ _ c.in_ok-old.old c.in-None.is (c.in_ok-old.ensures.finds ts rest h start) in
      (ts, h, null_absent c.args.name.now (view c.args.value.now) ts ms c.args.out.now.items c.args.later lacks above c.if-is_null.ensures);
}

pub splice_member-returns-in_ok-rest-in-Some-old : goal.splice_member-returns-in_ok-rest-in-Some-old
splice_member-returns-in_ok-rest-in-Some-old t c =
    let left = c.args.left in
    let old = c.in-Some-old.old in
    let next = some_case _ _ c.in_ok-old.old old c.in-Some-old.is c.in_ok-old.ensures.reads in
    let past = c.in_ok-rest-in-Some-old in
    record {
      reads = λ rest r. member_read left.text.now left.later left.last.now old.name.now old.value.now past.rest.now c.args.depth next past.ensures.reads rest r;
      splices = λ kept ms ts rest h start above.
          let name = c.args.name.now in
          let w = some_case _ _ c.in_ok-old.old old c.in-Some-old.is (c.in_ok-old.ensures.finds ts rest h start) in
          let r = past.ensures.splices kept w.old _ (old_kept name old.value.now left.text.now ts rest w h) (ends_before_members w.others rest) w.text in (
            w.others,
            past_old name old.value.now left.text.now ts rest w h _ r.0,
            some_found name old.value.now left.text.now (view c.args.value.now) ts ms rest c.args.out.now.items _ _ c.args.later w h above c.if-is_null.ensures c.in_ok-write_name.ensures r.1,
          );
    }

pub splice_member-returns-in_ok-write_new-in-None-old : goal.splice_member-returns-in_ok-write_new-in-None-old
splice_member-returns-in_ok-write_new-in-None-old t c = record {
  reads = λ rest r. r;
  splices = λ kept ms ts rest h start above.
      let lacks = none_case _ _ c.in_ok-old.old c.in-None-old.is (c.in_ok-old.ensures.finds ts rest h start) in
      (ts, h, some_absent c.args.name.now (view c.args.value.now) ts ms c.args.out.now.items _ _ c.args.later lacks above c.if-is_null.ensures c.in_ok-write_name.ensures (c.in_ok-write_new-in-None-old.ensures kept));
}

-- ---- members

pub splice_members-loop-name-init : goal.splice_members-loop-name-init
splice_members-loop-name-init t c =
    let es = c.args.members.now.entries in
    let all = c.all_members-left in
    let whole : c.into_iter-name-iterator.result ≡ es = c.into_iter-name-iterator.ensures.into_iter_gives ∙ c.iter-name-items.ensures.rest in
    record {
      can = tt;
      ends = tt;
      reads = λ rest r. members_begun c.args.text.now all.result.text.now all.result.last.now rest all.result.later c.args.depth all.ensures.from all.ensures.first r;
      kept = λ k. subst (λ (xs : List Entry). TextIsKept (object (members_view xs))) (sym whole) k;
      merged = λ k ts rest old is.
          subst (λ (xs : List Entry). Merged ts (members_view es) rest (c.args.out.now.items ++ 123 ∷ []) all.result.text.now c.write_byte.new.out.items false (members_view xs)) (sym whole)
          (merged_none all.result.text.now ts (members_view es) rest (c.args.out.now.items ++ 123 ∷ []) c.write_byte.new.out.items c.in_ok-write_byte.ensures old (all.ensures.from ∙ is));
    }

pub splice_members-loop-name-preserved : goal.splice_members-loop-name-preserved
splice_members-loop-name-preserved t c =
    let name = c.as_str-name.result.now in
    let v = view c.in-Some.value.now in
    let ms = members_view c.next.new.self in
    let step : members_view c.loop-name.name-iterator ≡ member name v ms =
    ap members_view c.in-Some.ensures.steps ∙ ap (λ (x : List ℕ). member x v ms) (sym c.as_str-name.ensures.value) in
    record {
      can = tt;
      ends = tt;
      reads = λ rest r. c.loop-name.invariant.reads rest (c.in_ok-left.ensures.reads rest (c.in_ok-left-2.ensures.reads rest r));
      kept = λ k. let h = subst (λ (xs : Members). TextIsKept (object xs)) step (c.loop-name.invariant.kept k) in (h.0.1, h.1.1);
      merged = λ k ts rest old is.
          let h = subst (λ (xs : Members). TextIsKept (object xs)) step (c.loop-name.invariant.kept k) in
          let m = subst (λ (xs : Members). Merged ts (members_view c.args.members.now.entries) rest (c.args.out.now.items ++ 123 ∷ []) c.loop-name.left.text.now c.loop-name.out.items c.loop-name.later xs) step
          (c.loop-name.invariant.merged k ts rest old is) in
          merged_one name v ts (members_view c.args.members.now.entries) ms rest _ c.loop-name.left.text.now c.loop-name.out.items c.loop-name.later _ _ _ _ _ _ m h.0.0
          (λ d ps os r. c.in_ok-left.ensures.copies d ps os r) (c.in_ok-left-2.ensures.splices h.1.0);
    }

pub splice_members-returns : goal.splice_members-returns
splice_members-returns t c = record {
  reads = IfOk-weaker c.copy_rest.result _ _ (λ after r. c.loop-name.invariant.reads after.now r) c.copy_rest.ensures.reads;
  splices = IfOk-weaker c.copy_rest.result _ _
      (λ left copies k ts rest old ends is.
      let m = subst (λ (xs : List Entry). Merged ts (members_view c.args.members.now.entries) rest (c.args.out.now.items ++ 123 ∷ []) c.loop-name.left.text.now c.loop-name.out.items c.loop-name.later (members_view xs)) c.in-None.ensures.steps.0
      (c.loop-name.invariant.merged k ts rest old is) in
      merged_all ts (members_view c.args.members.now.entries) rest c.args.out.now.items _ c.loop-name.left.text.now c.loop-name.out.items c.loop-name.later _ _ m refl ends copies)
      c.copy_rest.ensures.copies;
}

-- ---- items

pub splice_item-returns-in_default-clause-splices : goal.splice_item-returns-in_default-clause-splices
splice_item-returns-in_default-clause-splices t c kept old rest old_kept ends is =
    let xs = c.args.items.now.items in
    let id = c.in_ok-id.ensures old rest old_kept ends is in
    let goes : c.in_ok-left.left.now ≡ rest = c.in_ok-left.ensures.scans ∙ ap (scan 0 between) is ∙ scan-value 0 old rest old_kept ∙ ends in
    let lacks : Lacks c.in_ok-id.id.now (map view xs) = subst (λ (ys : List Value). Lacks c.in_ok-id.id.now (map view ys)) c.deref.ensures.value (none_case _ _ c.in_ok-place.field-0 c.in_default.is c.in_ok-place.ensures) in (
      goes,
      ap is_some id,
      item_copied old c.in_ok-id.id.now (map view xs) c.args.done.now.items c.args.out.now.items _ c.args.later id lacks
          (c.in_ok-copy_span.ensures (compact_text old) (is ∙ ap (λ (s : List ℕ). compact_text old ++ s) (sym goes))),
    )

pub splice_item-returns-clause-splices : goal.splice_item-returns-clause-splices
splice_item-returns-clause-splices t c kept old rest old_kept ends is =
    let xs = c.args.items.now.items in
    let vs = map view xs in
    let k = c.in-Some.place in
    let x = c.index.result.now in
    let id = c.in_ok-id.ensures old rest old_kept ends is in
    let place : (k < length vs) × Lacks c.in_ok-id.id.now (take k vs) × (bytes_eq (id_of (get_or vs k null)) c.in_ok-id.id.now ≡ true) =
    subst (λ (ys : List Value). (k < length (map view ys)) × Lacks c.in_ok-id.id.now (take k (map view ys)) × (bytes_eq (id_of (get_or (map view ys) k null)) c.in_ok-id.id.now ≡ true)) c.deref.ensures.value
    (some_case _ _ c.in_ok-place.field-0 k c.in-Some.is c.in_ok-place.ensures) in
    let low : k < length xs = omega (arith, place.0, length-map xs view) in
    let at : view x ≡ get_or vs k null = ap view c.index.ensures ∙ sym (get_or-map view xs k x null low) in
    let len : length c.args.done.now.items ≡ length vs = omega (arith, c.requires.marks, length-map xs view) in
    let r = c.in_ok-left-2.ensures.splices (item_kept xs k x low c.index.ensures kept) old rest old_kept ends is in (
      r.0,
      ap is_some id,
      item_met old (view x) c.in_ok-id.id.now vs c.args.done.now.items c.note_done.new.done.items k c.args.out.now.items _ _ c.args.later id place.0 len
          c.in_ok-note_done.ensures.was c.in_ok-note_done.ensures.is at place.2 c.requires.distinct (keep_ids vs kept c.requires.ids) c.in_ok-write_comma.ensures r.1,
    )

pub splice_items-returns : goal.splice_items-returns
splice_items-returns t c = record {
  reads = IfOk-weaker c.close_list.result _ _
      (λ after closes. c.in_ok-left.ensures.reads after.now (items_over c.in_ok-left.left.now after.now c.in_ok-left.later c.args.depth closes))
      c.close_list.ensures.reads;
  splices = IfOk-weaker c.close_list.result _ _
      (λ left closes kept ds rest old ends is.
      let xs = c.args.items.now.items in
      let distinct : HaveDistinctIds (map view xs) = subst (λ (ys : List Value). HaveDistinctIds (map view ys)) c.deref.ensures.value c.in_ok-places.ensures.distinct in
      let count : c.len.result ≡ length (map view xs) = omega (arith, c.len.ensures, length-map xs view) in
      let none : pending (map view xs) c.in_ok-done.done.items ≡ map view xs =
      ap (pending (map view xs)) c.in_ok-done.ensures ∙ none_pending (map view xs) c.len.result count in
      list_merged xs ds c.args.out.now.items c.write_byte.new.out.items _ rest c.in_ok-left.left.now left.now c.in_ok-left.later c.in_ok-done.done.items c.splice_old_items.new.done.items c.splice_old_items.new.out.items
      c.requires distinct kept c.in_ok-write_byte.ensures none (c.in_ok-left.ensures.splices kept ds rest old is) (closed_at xs c.deref-2.result.now c.splice_old_items.new.done.items c.deref-3.result.now _ _ c.splice_old_items.new.out.items c.in_ok-left.later c.deref-2.ensures.value c.deref-3.ensures.value closes kept))
      c.close_list.ensures.closes;
}

pub splice_old_items-loop-turn-init : goal.splice_old_items-loop-turn-init
splice_old_items-loop-turn-init t c = record {
  marks = c.requires.marks;
  reads = λ rest r. r;
  merged = λ k ds rest old is. items_none c.args.text.now ds (pending (map view c.args.items.now.items) c.args.done.now.items) rest c.args.out.now.items old is;
}

pub splice_old_items-returns-in_default-clause-splices : goal.splice_old_items-returns-in_default-clause-splices
splice_old_items-returns-in_default-clause-splices t c k ds rest old is =
    let s = none_case _ _ c.in_ok-item.field-0 c.in_default.is c.in_ok-item.ensures.finds in
    items_end ds _ rest c.args.out.now.items c.loop-turn.left.now c.loop-turn.out.items c.loop-turn.later _ s.0 (c.loop-turn.invariant.merged k ds rest old is) s.1

pub splice_old_items-loop-turn-preserved : goal.splice_old_items-loop-turn-preserved
splice_old_items-loop-turn-preserved t c =
    let s = some_case _ _ c.in_ok-item.field-0 c.in-Some.item c.in-Some.is c.in_ok-item.ensures.finds in
    let comma = some_case _ _ c.in_ok-item.field-0 c.in-Some.item c.in-Some.is c.in_ok-item.ensures.reads in
    record {
      marks = c.in_ok-left.ensures.marks;
      reads = λ rest r. c.loop-turn.invariant.reads rest (item_read c.loop-turn.left.now c.in-Some.item.now c.in_ok-left.left.now c.loop-turn.later c.args.depth comma c.in_ok-left.ensures.reads rest r);
      merged = λ k ds rest old is.
          items_one ds (pending (map view c.args.items.now.items) c.args.done.now.items) rest c.args.out.now.items c.loop-turn.left.now c.loop-turn.out.items c.loop-turn.later _ c.in-Some.item.now s.1 _ _ _
          (c.loop-turn.invariant.merged k ds rest old is) s.0 s.2 (c.in_ok-left.ensures.splices k);
    }

-- ---- values

pub splice_value-returns-in_ok-depth_inside-in-Some : goal.splice_value-returns-in_ok-depth_inside-in-Some
splice_value-returns-in_ok-depth_inside-in-Some t c = record {
  reads = IfOk-weaker c.splice_members.result _ _
      (λ after r. object_inside c.args.text.now c.in-Some.inside.now after.now c.args.depth c.in_ok-depth_inside-in-Some.field-0 c.in-Some.ensures c.in_ok-depth_inside-in-Some.ensures r)
      c.splice_members.ensures.reads;
  splices = IfOk-weaker c.splice_members.result _ _
      (λ left splices kept d rest old_kept ends is.
      let ms = members_view c.in-Object.members.entries in
      let v : view c.args.value.now ≡ object ms = ap view c.in-Object.is ∙ view-Object c.in-Object.members in
      let o = opened d rest c.args.text.now c.in-Some.inside.now old_kept is c.in-Some.ensures in
      let r = splices (subst TextIsKept v kept) o.members rest o.kept ends o.text in
      (r.0, object_merged (view c.args.value.now) d ms o.members _ _ v o.is r.1))
      c.splice_members.ensures.splices;
}

pub splice_value-returns-in_ok-depth_inside-in-Some-after_byte : goal.splice_value-returns-in_ok-depth_inside-in-Some-after_byte
splice_value-returns-in_ok-depth_inside-in-Some-after_byte t c = record {
  reads = IfOk-weaker c.splice_items.result _ _
      (λ after r. array_inside c.args.text.now c.in-Some-after_byte.inside.now after.now c.args.depth c.in_ok-depth_inside-in-Some-after_byte.field-0 c.in-Some-after_byte.ensures c.in_ok-depth_inside-in-Some-after_byte.ensures r)
      c.splice_items.ensures.reads;
  splices = IfOk-weaker c.splice_items.result _ _
      (λ left splices kept d rest old_kept ends is.
      let xs = c.in-Array.items.items in
      let v : view c.args.value.now ≡ array (items_view xs) = ap view c.in-Array.is ∙ view-Array c.in-Array.items in
      let o = opened_list d rest c.args.text.now c.in-Some-after_byte.inside.now old_kept is c.in-Some-after_byte.ensures in
      let list : is_id_list (items_view xs) ≡ true = ap (λ (ys : List Value). is_id_list (items_view ys)) (sym c.deref.ensures.value) ∙ sym c.is_id_list.ensures ∙ c.if-not-is_id_list.false in
      let r = splices (subst TextIsKept v kept) o.items rest o.kept ends o.text in
      (r.0, array_merged (view c.args.value.now) d (items_view xs) o.items _ _ v o.is list r.1))
      c.splice_items.ensures.splices;
}
