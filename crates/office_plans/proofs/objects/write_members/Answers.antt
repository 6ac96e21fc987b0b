use Rattle.office_plans.proofs.Names.{rules, ◌≡◌, [], ◌∷◌, ◌++◌, ◌+◌, map, take, ap, sym, ◌∙◌, flat_map, take_more, key, entry_of, member_tokens, value_tokens}
use Rattle.office_plans.proofs.Printed.{named_written, one_written}
use Rattle.office_plans.proofs.objects.write_members.Goals as goal

pub loop-name-preserved : goal.loop-name-preserved
loop-name-preserved c =
    let ms = c.args.members.now in
    let item = c.loop-name-item.result in
    let e = entry_of item in
    let front = c.args.out.now.tokens in
    let done = take c.loop-name.name-index ms in
    let more : take (c.loop-name.name-index + 1) ms ≡ done ++ item ∷ [] = search (rules, take_more) in (
      c.in_ok-write_value.ensures.0 ∙ c.in_ok-key.ensures.room.0 ∙ c.loop-name.invariant.0,
      c.in_ok-write_value.ensures.1
          ∙ ap (λ ts. ts ++ value_tokens e.1) (c.in_ok-key.ensures.ok ∙ ap (λ ts. ts ++ key e.0 ∷ []) c.loop-name.invariant.1)
          ∙ named_written (front ++ flat_map member_tokens (map entry_of done)) e
          ∙ one_written member_tokens entry_of front done item
          ∙ ap (λ l. front ++ flat_map member_tokens (map entry_of l)) (sym more),
    )
