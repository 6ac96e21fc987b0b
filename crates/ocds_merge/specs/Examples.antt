-- The definitions applied to JSON texts, for the worked examples of `src/examples.rt`. Runs and items are listed newest first, as in the definitions.
use Rattle.std.specs.Prelude.{ℕ, List, map, reverse, Bool, unwrap_or}
use Rattle.serde_json.specs.Data.{Data, null, boolean, number, string, array, object, Items, no_items, Members}
use Rattle.serde_json.specs.Read.{read}
use Rattle.serde_json.specs.Written.{compact_text}
use Rattle.ocds_merge.specs.Identified.{is_id_list}
use Rattle.ocds_merge.specs.Merge.{object_run, column_at, id_list_run, items_in, ids_in, merge_or_null}
use Rattle.ocds_merge.specs.Compile.{date_order, body_of, with_head, compiled_release}

abbrev pub data_of : List ℕ → Data
data_of text = unwrap_or (read text) null

abbrev pub column_of : List (List ℕ) → List Data
column_of texts = reverse (map data_of texts)

abbrev pub items_of_array : Data → Items
items_of_array null = no_items
items_of_array (boolean b) = no_items
items_of_array (number n) = no_items
items_of_array (string s) = no_items
items_of_array (array ds) = ds
items_of_array (object ms) = no_items

abbrev pub is_text_of_id_list : List ℕ → Bool
is_text_of_id_list text = is_id_list (items_of_array (data_of text))

abbrev pub object_run_texts : List (List ℕ) → List (List ℕ)
object_run_texts texts = map (λ (ms : Members). compact_text (object ms)) (object_run (column_of texts))

abbrev pub column_texts : List ℕ → List (List ℕ) → List (List ℕ)
column_texts name texts = map compact_text (column_at name (object_run (column_of texts)))

abbrev pub id_list_run_texts : List (List ℕ) → List (List ℕ)
id_list_run_texts texts = map (λ (ds : Items). compact_text (array ds)) (id_list_run (column_of texts))

abbrev pub item_texts : List (List ℕ) → List (List ℕ)
item_texts texts = map compact_text (items_in (id_list_run (column_of texts)))

abbrev pub id_texts : List (List ℕ) → List (List ℕ)
id_texts texts = ids_in (items_in (id_list_run (column_of texts)))

abbrev pub merge_text : List (List ℕ) → List ℕ
merge_text texts = compact_text (merge_or_null (map data_of texts))

abbrev pub date_order_texts : List (List ℕ) → List (List ℕ)
date_order_texts texts = map compact_text (date_order (map data_of texts))

abbrev pub body_text : List ℕ → List ℕ
body_text text = compact_text (body_of (data_of text))

abbrev pub headed_text : List ℕ → List ℕ → List ℕ → List ℕ
headed_text ocid date text = compact_text (with_head ocid date (data_of text))

abbrev pub compiled_text : List ℕ → List (List ℕ) → List ℕ
compiled_text ocid texts = compact_text (compiled_release ocid (map data_of texts))
