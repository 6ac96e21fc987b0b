use Rattle.ocds_merge.proofs.Names.{◌≡◌, drop, items_view, members_view, items_have_float, members_have_float, AreItemsKept, AreMembersKept}
use Rattle.ocds_merge.proofs.kept_value.+walking.Given as goal

abbrev pub invariant-are_items_kept-loop-item : goal.invariant-are_items_kept-loop-item
invariant-are_items_kept-loop-item l = record {
  kept : AreItemsKept (items_view (drop l.item-index l.items.items)) → AreItemsKept (items_view l.items.items);
  is : items_have_float (items_view (drop l.item-index l.items.items)) ≡ items_have_float (items_view l.items.items);
}

abbrev pub invariant-are_members_kept-loop-name : goal.invariant-are_members_kept-loop-name
invariant-are_members_kept-loop-name l = record {
  can : (goal.iterator-are_members_kept-loop-name).can_next l._name-iterator;
  ends : (goal.iterator-are_members_kept-loop-name).is_finite l._name-iterator;
  kept : AreMembersKept (members_view l._name-iterator) → AreMembersKept (members_view l.members.entries);
  is : members_have_float (members_view l._name-iterator) ≡ members_have_float (members_view l.members.entries);
}
