use Rattle.office_tables.proofs.Names.{◌∙◌, ap, arith, decimal}
use Rattle.office_tables.proofs.ItemLemmas.{six}
use Rattle.office_tables.proofs.items.push_item.Goals as goal

pub returns-clause-text : goal.returns-clause-text
returns-clause-text c =
    six c.args.item.now _ _ _ _ _ _ _ _ _ _ c.in_ok-extend_from_slice.ensures.items c.in_ok-push.ensures.items c.in_ok-extend_from_slice-2.ensures.items c.in_ok-push-2.ensures.items
    c.in_ok-extend_from_slice-3.ensures.items c.in_ok-push-3.ensures.items c.as_bytes.ensures.value (c.as_bytes-2.ensures.value ∙ c.format.ensures.text ∙ ap decimal c.get.ensures.value) (c.as_bytes-3.ensures.value ∙ c.as_str.ensures.value)

pub returns-clause-right : goal.returns-clause-right
returns-clause-right c =
    record { id = c.as_bytes.ensures.id; title = c.as_str.ensures.line; quantity = (omega (arith, c.get.ensures.value, c.get.ensures.least), omega (arith, c.get.ensures.value, c.get.ensures.most)) }
