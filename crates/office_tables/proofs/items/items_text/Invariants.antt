use Rattle.office_tables.proofs.Names.{◌≡◌, take, AllByRecursion, items_text, IsItem}
use Rattle.office_tables.proofs.items.items_text.Given as goal

abbrev pub invariant-items : goal.invariant-items
invariant-items l = (l.out.items ≡ items_text (take l.item-index l.item-items)) × AllByRecursion IsItem (take l.item-index l.item-items)
