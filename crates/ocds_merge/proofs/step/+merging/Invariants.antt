use Rattle.ocds_merge.proofs.Names.{◌≡◌, drop, map, true, view, items_view, members_view, all_have_id, step_items, step_members, IndexServes, AreItemsProper, AreMembersProper}
use Rattle.ocds_merge.proofs.step.+merging.Given as goal

abbrev pub invariant-merge_items-loop-item : goal.invariant-merge_items-loop-item
invariant-merge_items-loop-item l = record {
  step : step_items (map view l.target.items) (items_view (drop l.item-index l.items.items)) ≡ step_items (map view l.fn.target.items) (items_view l.items.items);
  proper : AreItemsProper (items_view (drop l.item-index l.items.items)) → AreItemsProper (items_view l.items.items);
  ids : all_have_id (items_view (drop l.item-index l.items.items)) ≡ true;
  places : IndexServes l.places.by_id (map view l.target.items);
}

abbrev pub invariant-merge_members-loop-key : goal.invariant-merge_members-loop-key
invariant-merge_members-loop-key l = record {
  can : (goal.iterator-merge_members-loop-key).can_next l.key-iterator;
  ends : (goal.iterator-merge_members-loop-key).is_finite l.key-iterator;
  step : step_members (members_view l.target.entries) (members_view l.key-iterator) ≡ step_members (members_view l.fn.target.entries) (members_view l.members.entries);
  proper : AreMembersProper (members_view l.key-iterator) → AreMembersProper (members_view l.members.entries);
}
