-- The items of a lot: the identifier of each.
use Rattle.std.specs.Prelude.{ℕ, List}
use Rattle.office_commands.specs.declared.item.Item.{Item}

abbrev pub item_id : Item → List ℕ
item_id item = item.id
