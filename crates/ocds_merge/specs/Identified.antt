-- Id lists: the arrays whose items are known by their ids, such as `parties`, `tender/lots` and `awards`. OCDS 1.1, "Merging", names these arrays by the
-- schema; this profile decides by the content of the array.
use Rattle.std.specs.Prelude.{ℕ, List, [], codes, Bool, true, false, ◌&&◌, Option, is_some, option_and_then, unwrap_or}
use Rattle.serde_json.specs.Data.{Data, Items, no_items, item}
use Rattle.serde_json.specs.Find.{get, as_str}

-- the text that an object has under this name; other values have none
abbrev pub text_member : List ℕ → Data → Option (List ℕ)
text_member name d = option_and_then as_str (get name d)

-- the text `id` of an object
abbrev pub text_id : Data → Option (List ℕ)
text_id d = text_member (codes "id") d

-- the id by which an item is known, or an empty text
abbrev pub id_of : Data → List ℕ
id_of d = unwrap_or (text_id d) []

abbrev pub all_have_id : Items → Bool
all_have_id no_items = true
all_have_id (item d ds) = is_some (text_id d) && all_have_id ds

-- "An id list is a non-empty array of objects that each have a text `id`." Examples: `id_list`, `empty_array_is_none`, `number_ids_make_none`.
abbrev pub is_id_list : Items → Bool
is_id_list no_items = false
is_id_list (item d ds) = all_have_id (item d ds)
