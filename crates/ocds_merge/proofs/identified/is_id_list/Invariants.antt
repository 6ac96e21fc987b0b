use Rattle.ocds_merge.proofs.Names.{◌≡◌, drop, items_view, all_have_id}
use Rattle.ocds_merge.proofs.identified.is_id_list.Given as goal

abbrev pub invariant-loop-item : goal.invariant-loop-item
invariant-loop-item l = all_have_id (items_view (drop l.item-index l.items)) ≡ all_have_id (items_view l.items)
