-- The items of a lot as one text: a line for each, with its identifier, quantity and title, and tabs between.
use Rattle.std.specs.Prelude.{◌≡◌, ℕ, zero, suc, ◌<◌, ◌≤◌, ◌^◌, cond, false, ◌==◌, List, [], ◌∷◌, ◌++◌, length}
use Rattle.std.specs.Fmt.{decimal}
use Rattle.std.specs.List.{AllByRecursion}
use Rattle.std.specs.Str.Parse.{digits_value}
use Rattle.office_values.specs.Ids.{IsId}
use Rattle.office_values.specs.Texts.{IsTextLine}
use Rattle.office_commands.specs.declared.item.Item.{Item}
use Rattle.office_commands.specs.Identified.{repeats_id}
use Rattle.office_commands.specs.Items.{item_id}

-- an item's line, followed by the rest of the text
abbrev pub item_then : Item → List ℕ → List ℕ
item_then item rest = item.id ++ (9 ∷ (decimal item.quantity ++ (9 ∷ (item.title ++ (10 ∷ rest)))))

-- the lines of all items, one after another
abbrev pub items_text : List Item → List ℕ
items_text [] = []
items_text (item ∷ items) = item_then item (items_text items)

-- the bytes before the first `stop`; all bytes if there is none
abbrev pub text_before : ℕ → List ℕ → List ℕ
text_before stop [] = []
text_before stop (b ∷ bytes) = cond (b == stop) [] (b ∷ text_before stop bytes)

-- the bytes after the first `stop`; no bytes if there is none
abbrev pub text_behind : ℕ → List ℕ → List ℕ
text_behind stop [] = []
text_behind stop (b ∷ bytes) = cond (b == stop) bytes (text_behind stop bytes)

-- the item of a text's first line
abbrev pub first_item : List ℕ → Item
first_item text = record { id = text_before 9 text; title = text_before 10 (text_behind 9 (text_behind 9 text)); quantity = digits_value 10 (text_before 9 (text_behind 9 text)) }

-- the text after its first line
abbrev pub item_rest : List ℕ → List ℕ
item_rest text = text_behind 10 (text_behind 9 (text_behind 9 text))

-- the items of a text, but at most so many
unfoldable pub some_items : ℕ → List ℕ → List Item
some_items zero text = []
some_items (suc most) [] = []
some_items (suc most) (b ∷ text) = first_item (b ∷ text) ∷ some_items most (item_rest (b ∷ text))

-- the items of a text; it is some list of items even if no items have this text
abbrev pub items_in_text : List ℕ → List Item
items_in_text text = some_items (length text) text

-- `stop` isn't one of the bytes
abbrev pub Avoids : ℕ → List ℕ → Type 0
Avoids stop bytes = AllByRecursion (λ b. (b == stop) ≡ false) bytes

-- the item can be read back from its line: no tab in the identifier, no line feed in the title, a quantity below 2^64
pub record ItemFits (item : Item) : Type 0 where
  pub id : Avoids 9 item.id
  pub title : Avoids 10 item.title
  pub quantity : item.quantity < 2 ^ 64

-- each field of the item is valid
pub record IsItem (item : Item) : Type 0 where
  pub id : IsId item.id
  pub title : IsTextLine item.title
  pub quantity : (1 ≤ item.quantity) × (item.quantity ≤ 10 ^ 6)

-- the items of a lot: at least one, and no two with the same identifier
pub record AreItems (items : List Item) : Type 0 where
  pub each : AllByRecursion IsItem items
  pub some : 1 ≤ length items
  pub differ : repeats_id item_id items ≡ false
