use Rattle.office_plans.proofs.Names.{[], ◌∷◌, ◌++◌, map, ap, sym, ◌∙◌, flat_map, begin_object, end_object, key, entry_of, member_tokens, objects_entry, value_tokens, with_objects}
use Rattle.office_plans.proofs.Printed.{between, object_written, three_parts}
use Rattle.office_plans.proofs.objects.write_with_rows.Goals as goal

pub returns : goal.returns
returns g c =
    let front = map entry_of c.args.front.now in
    let rest = map entry_of c.args.rest.now in
    let name = c.args.name.now in
    let objects = map (g.O.RowObject.members_of c.args.shown.now) c.args.rows.now in
    let list = objects_entry name objects in
    let all = with_objects front name objects rest in
    let begun = c.args.out.now.tokens ++ begin_object ∷ [] in
    let first = flat_map member_tokens front in
    let last = flat_map member_tokens rest in (
      c.in_ok-end_object.ensures.room.0 ∙ c.in_ok-write_members-2.ensures.0 ∙ c.in_ok-write_rows.ensures.0 ∙ c.in_ok-key.ensures.room.0
          ∙ c.in_ok-write_members.ensures.0 ∙ c.in_ok-begin_object.ensures.room.0,
      c.in_ok-end_object.ensures.ok
          ∙ ap (λ ts. ts ++ end_object ∷ [])
          (c.in_ok-write_members-2.ensures.1
          ∙ ap (λ ts. ts ++ last)
          (c.in_ok-write_rows.ensures.1
          ∙ ap (λ ts. ts ++ value_tokens list.1)
          (c.in_ok-key.ensures.ok
          ∙ ap (λ ts. ts ++ key name ∷ []) (c.in_ok-write_members.ensures.1 ∙ ap (λ ts. ts ++ first) c.in_ok-begin_object.ensures.ok)))
          ∙ three_parts begun front list rest)
          ∙ between c.args.out.now.tokens begin_object (flat_map member_tokens all) end_object
          ∙ ap (λ ts. c.args.out.now.tokens ++ ts) (sym (object_written all c.requires.rising)),
    )
