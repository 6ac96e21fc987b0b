use Rattle.office_plans.proofs.Names.{[], ◌∷◌, ◌++◌, map, ap, sym, ◌∙◌, flat_map, begin_object, end_object, entry_of, member_tokens}
use Rattle.office_plans.proofs.Printed.{between, object_written}
use Rattle.office_plans.proofs.objects.write_object.Goals as goal

pub returns : goal.returns
returns c =
    let es = map entry_of c.args.members.now in
    let inner = flat_map member_tokens es in
    let front = c.args.out.now.tokens in (
      c.in_ok-end_object.ensures.room.0 ∙ c.in_ok-write_members.ensures.0 ∙ c.in_ok-begin_object.ensures.room.0,
      c.in_ok-end_object.ensures.ok
          ∙ ap (λ ts. ts ++ end_object ∷ []) (c.in_ok-write_members.ensures.1 ∙ ap (λ ts. ts ++ inner) c.in_ok-begin_object.ensures.ok)
          ∙ between front begin_object inner end_object
          ∙ ap (λ ts. front ++ ts) (sym (object_written es c.requires.rising)),
    )
