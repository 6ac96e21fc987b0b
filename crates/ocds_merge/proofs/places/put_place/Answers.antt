use Rattle.ocds_merge.proofs.Names.{◌∙◌, ap, List, ℕ, Some, cond, bytes_eq, string_bytes, get_by_text, btree_map_updates_text}
use Rattle.ocds_merge.proofs.places.put_place.Goals as goal

pub returns : goal.returns
returns c = λ i.
    let key = string_bytes c.in_ok-from_str.field-0 in
    btree_map_updates_text key c.args.by_id.now c.insert.new.self _ c.in_ok-insert.ensures.updates i
    ∙ ap (λ (id : List ℕ). cond (bytes_eq id i) (Some c.args.place) (get_by_text c.args.by_id.now i)) c.in_ok-from_str.ensures.ok
