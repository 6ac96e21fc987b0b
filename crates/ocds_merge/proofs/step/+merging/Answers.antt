use Rattle.ocds_merge.proofs.Names.{◌≡◌, ◌<◌, ◌+◌, ◌∙◌, ◌∷◌, ◌++◌, List, [], sym, subst, ap, map, take, drop, set, get_or, length, bytes_eq, true, is_some, ◌&&◌, arith, None, Vec, Global, length-map, Data, null, item, Value, view, items_view, members_view, id_of, text_id, all_have_id, Lacks, step_items, IndexServes, IsProper, AreItemsProper, AreMembersProper}
use Rattle.ocds_merge.proofs.CodeLemmas.{sorted_names_of, dropped, turned, found_turn, lacked_turn}
use Rattle.ocds_merge.proofs.IdLaw.{first_id, other_ids, new_id}
use Rattle.ocds_merge.proofs.PlaceLaw.{found_serves, pushed_serves}
use Rattle.ocds_merge.proofs.step.+merging.Goals as goal
use Rattle.ocds_merge.proofs.step.+merging.Goals.{merge_items-in-Some+in_ok-new-in-Some, merge_items-in-None+in_ok-new-in-None+in_ok-add-in-None+in_ok-push-in-None}

pub merge_items-loop-item-preserved : goal.merge_items-loop-item-preserved
merge_items-loop-item-preserved t c =
    let i = c.loop-item.item-index in
    let xs = c.args.items.now.items in
    let x = c.item-item.result in
    let ts = c.loop-item.target.items in
    let id = c.id_of-id.result.now in
    let after = c.match-find.target.items in
    let all : c.deref-item-items.result.now ≡ xs = c.deref-item-items.ensures.value in
    let slice : c.deref-in-loop-item.result.now ≡ ts = c.deref-in-loop-item.ensures.value in
    let here = c.item-item.is ∙ ap (λ (ys : List Value). get_or ys i x) all in
    let rest : items_view (drop i xs) ≡ item (view x) (items_view (drop (i + 1) xs)) = dropped xs i x (omega (arith, ap length all)) here in
    let ids : (is_some (text_id (view x)) && all_have_id (items_view (drop (i + 1) xs))) ≡ true = ap all_have_id (sym rest) ∙ c.loop-item.invariant.ids in
    let has_id : is_some (text_id (view x)) ≡ true = first_id _ _ ids in
    let done : IsProper (view x) × (map view after ≡ turned (view x) (map view ts)) × IndexServes c.match-find.places.by_id (map view after) =
    elim c.match-find.branch [
      | merge_items-in-Some+in_ok-new-in-Some w ↦
          let p = w.in-Some.place in
          let gone = w.replace-old.new.dest in
          let b = w.unwrap_or.result in
          let new = w.in_ok-new-in-Some.new in
          let merge = w.in_ok-new-in-Some.ensures in
          let low : p < length ts = omega (arith, ap length slice, length-map c.deref-in-loop-item.result.now view, w.in-Some.ensures.0) in
          let lacks : Lacks id (take p (map view ts)) = subst (λ (ys : List Value). Lacks id (take p (map view ys))) slice w.in-Some.ensures.1 in
          let has : bytes_eq (id_of (get_or (map view ts) p null)) id ≡ true =
          subst (λ (ys : List Value). bytes_eq (id_of (get_or (map view ys) p null)) id ≡ true) slice w.in-Some.ensures.2 in
          let old = subst (λ (y : Value). y ≡ get_or ts p y) (sym w.replace-old.ensures.value) w.index_mut.ensures.value in
          let is : after ≡ set (set ts p gone) p b =
          ap (λ (v : Vec Value Global). v.items) w.target-is ∙ ap (λ (a : Value). set (set ts p gone) p a) w.replace.ensures.after in
          let same = new_id _ new b (view x) merge.proper has_id merge.step w.unwrap_or.ensures ∙ sym c.id_of-id.ensures in (
            merge.proper,
            ap (map view) is ∙ found_turn ts p gone b w.replace-old.result new id (view x) c.id_of-id.ensures low lacks has old merge.step w.unwrap_or.ensures,
            subst (λ kept. IndexServes kept.by_id (map view after)) (sym w.places-is)
                (subst (λ (ys : List Value). IndexServes c.loop-item.places.by_id (map view ys)) (sym is)
                (found_serves c.loop-item.places.by_id ts p gone b id c.loop-item.invariant.places low has same)),
          )
      | merge_items-in-None+in_ok-new-in-None+in_ok-add-in-None+in_ok-push-in-None w ↦
          let b = w.unwrap_or-in-None.result in
          let new = w.in_ok-new-in-None.new in
          let merge = w.in_ok-new-in-None.ensures in
          let lacks : Lacks id (map view ts) = subst (λ (ys : List Value). Lacks id (map view ys)) slice w.in-None.ensures in
          let is : after ≡ ts ++ b ∷ [] = ap (λ (v : Vec Value Global). v.items) w.target-is ∙ w.in_ok-push-in-None.ensures.items in
          let same = new_id None new b (view x) merge.proper has_id merge.step w.unwrap_or-in-None.ensures ∙ sym c.id_of-id.ensures in
          let place : length (map view ts) ≡ w.len-in-None.result = omega (arith, length-map ts view, w.len-in-None.ensures) in (
            merge.proper,
            ap (map view) is ∙ lacked_turn ts b new id (view x) c.id_of-id.ensures lacks merge.step w.unwrap_or-in-None.ensures,
            subst (λ kept. IndexServes kept.by_id (map view after)) (sym w.places-is)
                (subst (λ (ys : List Value). IndexServes w.add.new.self.by_id (map view ys)) (sym is)
                (pushed_serves w.add.new.self.by_id ts b (w.in_ok-add-in-None.ensures (map view ts) (view b) c.loop-item.invariant.places place lacks same))),
          )
    ] in
    record {
      step = ap (λ (ys : List Data). step_items ys (items_view (drop (i + 1) xs))) done.1
          ∙ ap (step_items (map view ts)) (sym rest) ∙ c.loop-item.invariant.step;
      proper = λ h. c.loop-item.invariant.proper (subst AreItemsProper (sym rest) (done.0, h));
      ids = other_ids _ _ ids;
      places = done.2;
    }

pub merge_members-returns-clause-proper : goal.merge_members-returns-clause-proper
merge_members-returns-clause-proper t c =
    let left : c.loop-key.key-iterator ≡ [] = c.in-None.ensures.steps.0 in (
      sorted_names_of c.args.members.now.entries c.iter-key-items.ensures.ordered,
      c.loop-key.invariant.proper (subst (λ es. AreMembersProper (members_view es)) (sym left) tt),
    )
