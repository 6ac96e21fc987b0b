use Rattle.ocds_merge.proofs.Names.{◌≡◌, ◌∙◌, ap, sym, map, true, view, items_view, is_id_list, view-Array}
use Rattle.ocds_merge.proofs.MergeLaw.{items_list-items_of}
use Rattle.ocds_merge.proofs.step.id_list_of.Goals as goal

pub returns-then-is_id_list : goal.returns-then-is_id_list
returns-then-is_id_list c =
    let yes : is_id_list (items_view c.in-Array.items.items) ≡ true =
    sym (c.is_id_list.ensures ∙ ap (λ xs. is_id_list (items_view xs)) c.deref.ensures.value) ∙ c.if-is_id_list.true in
    rw (c.in-Some.is, c.in-Array.is, view-Array c.in-Array.items, yes) (sym (items_list-items_of (map view c.in-Array.items.items)))
