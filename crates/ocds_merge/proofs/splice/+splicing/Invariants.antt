use Rattle.ocds_merge.proofs.Names.{◌≡◌, ◌++◌, ◌∷◌, [], List, ℕ, false, length, map, Members, Items, object, view, items_view, members_view, members_text, items_text, pending, ItemsRead, MembersRead, TextIsKept, AreItemsKept, Merged, ItemsMerged}
use Rattle.ocds_merge.proofs.splice.+splicing.Given as goal

abbrev pub invariant-splice_members-loop-name : goal.invariant-splice_members-loop-name
invariant-splice_members-loop-name l = record {
  can : (goal.iterator-splice_members-loop-name).can_next l.name-iterator;
  ends : (goal.iterator-splice_members-loop-name).is_finite l.name-iterator;
  reads : MembersRead l.text false [] l.left.text.now l.left.later l.left.last.now l.depth;
  kept : TextIsKept (object (members_view l.members.entries)) → TextIsKept (object (members_view l.name-iterator));
  merged : TextIsKept (object (members_view l.members.entries)) → (ts : Members) (rest : List ℕ) → TextIsKept (object ts) → l.text ≡ members_text false ts ++ rest
      → Merged ts (members_view l.members.entries) rest (l.fn.out.items ++ 123 ∷ []) l.left.text.now l.out.items l.later (members_view l.name-iterator);
}

abbrev pub invariant-splice_old_items-loop-turn : goal.invariant-splice_old_items-loop-turn
invariant-splice_old_items-loop-turn l = record {
  marks : length l.done.items ≡ length l.items.items;
  reads : ItemsRead l.text false l.left l.later l.depth;
  merged : AreItemsKept (items_view l.items.items) → (ds : Items) (rest : List ℕ) → AreItemsKept ds → l.text ≡ items_text false ds ++ rest
      → ItemsMerged ds (pending (map view l.items.items) l.fn.done.items) rest l.fn.out.items l.left l.out.items l.later (pending (map view l.items.items) l.done.items);
}
