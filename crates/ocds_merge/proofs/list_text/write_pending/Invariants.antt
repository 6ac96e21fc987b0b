use Rattle.ocds_merge.proofs.Names.{◌≡◌, ◌++◌, map, drop, view, items_of, items_view, items_text, AreItemsKept, alone, pending}
use Rattle.ocds_merge.proofs.list_text.write_pending.Given as goal

abbrev pub invariant-loop-place : goal.invariant-loop-place
invariant-loop-place l =
    AreItemsKept (items_view l.items)
    → l.out.items ++ items_text l.later (items_of (map alone (pending (map view (drop l.place l.items)) (drop l.place l.done))))
    ≡ l.fn.out.items ++ items_text l.fn.later (items_of (map alone (pending (map view l.items) l.done)))
