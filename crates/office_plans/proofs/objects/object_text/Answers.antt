use Rattle.office_plans.proofs.Names.{◌++◌, map, ap, ap₂, ◌∙◌, print, entry_of, json_object, value_tokens}
use Rattle.office_plans.proofs.Printed.{value_printed}
use Rattle.office_plans.proofs.objects.object_text.Goals as goal

pub returns : goal.returns
returns c =
    let d = json_object (map entry_of c.args.members.now) in
    let written = c.in_ok-write_object.ensures in
    c.into_inner.ensures.items
    ∙ ap₂ (λ a b. a ++ print b) (written.0 ∙ c.new-out.ensures.before ∙ c.in_ok-with_capacity.ensures.items)
    (written.1 ∙ ap (λ ts. ts ++ value_tokens d) c.new-out.ensures.tokens)
    ∙ value_printed d
