use Rattle.office_tables.proofs.Names.{◌≡◌, ◌++◌, length, AllByRecursion, items_text, IsItem}
use Rattle.office_tables.proofs.items.read_items.Given as goal

abbrev pub invariant-items : goal.invariant-items
invariant-items l = (items_text l.found.items ++ l.rest ≡ l.text) × AllByRecursion IsItem l.found.items

abbrev pub decreases-items : goal.decreases-items
decreases-items l = length l.rest
