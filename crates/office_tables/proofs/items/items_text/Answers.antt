use Rattle.office_tables.proofs.Names.{rules, arith, List, ℕ, ◌≡◌, ◌++◌, ◌+◌, [], ◌∷◌, take, ap, subst, ◌∙◌, sym, take_more, take_all, AllByRecursion, item_then, items_text, items_in_text, IsItem}
use Rattle.office_tables.proofs.ItemLemmas.{items_text-push, all-push, items_back}
use Rattle.office_tables.proofs.ItemReading.{all_fit}
use Rattle.office_tables.proofs.items.items_text.Goals as goal

pub items-preserved : goal.items-preserved
items-preserved c =
    let items = c.as_slice-item-items.result.now in
    let at = c.items.item-index in
    let item = c.item-item.result in
    let more : take (at + 1) items ≡ take at items ++ (item ∷ []) = search (rules, take_more) in (
      rw more (c.in_ok-push_item.ensures.text ∙ ap (λ (l : List ℕ). l ++ item_then item []) c.items.invariant.0 ∙ sym (items_text-push (take at items) item)),
      rw more (all-push IsItem (take at items) item c.items.invariant.1 c.in_ok-push_item.ensures.right),
    )

pub returns-clause-back : goal.returns-clause-back
returns-clause-back c =
    let all : take c.items.item-index c.as_slice-item-items.result.now ≡ c.args.items.now = take_all c.items.item-index c.as_slice-item-items.result.now (omega arith) ∙ c.as_slice-item-items.ensures.value in
    ap items_in_text (c.items.invariant.0 ∙ ap items_text all) ∙ items_back c.args.items.now (all_fit c.args.items.now (subst (AllByRecursion IsItem) all c.items.invariant.1))

pub returns-clause-right : goal.returns-clause-right
returns-clause-right c =
    let all : take c.items.item-index c.as_slice-item-items.result.now ≡ c.args.items.now = take_all c.items.item-index c.as_slice-item-items.result.now (omega arith) ∙ c.as_slice-item-items.ensures.value in
    record { each = subst (AllByRecursion IsItem) all c.items.invariant.1; some = c.as_slice-item-items.ensures.some; differ = c.as_slice-item-items.ensures.differ }
