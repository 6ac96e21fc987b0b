use Rattle.office_plans.proofs.Names.{◌++◌, map, ap, ap₂, ◌∙◌, print, entry_of, json_object, value_tokens, with_objects}
use Rattle.office_plans.proofs.Printed.{value_printed}
use Rattle.office_plans.proofs.objects.rows_text.Goals as goal

pub returns : goal.returns
returns g c =
    let objects = map (g.O.RowObject.members_of c.args.shown.now) c.args.rows.now in
    let d = json_object (with_objects (map entry_of c.args.front.now) c.args.name.now objects (map entry_of c.args.rest.now)) in
    let written = c.in_ok-write_with_rows.ensures in
    c.into_inner.ensures.items
    ∙ ap₂ (λ a b. a ++ print b) (written.0 ∙ c.new-out.ensures.before ∙ c.in_ok-with_capacity.ensures.items)
    (written.1 ∙ ap (λ ts. ts ++ value_tokens d) c.new-out.ensures.tokens)
    ∙ value_printed d
