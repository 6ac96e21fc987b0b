-- The merge. A place of the tree is for example `tender/title`. Its column is the list of the values that the releases give for it, in the order of their
-- dates. A release without the place gives no value. `merge_of` is the value of the place after these releases, or `None`.
--
-- Each definition is about whole columns; none goes from one release to the next. In most of them a column is listed newest first, so that the run at its
-- end, which alone counts, is at the head of the list. `src/examples.rt` has a worked example of each, named below.
use Rattle.std.specs.Prelude.{ℕ, zero, suc, max, List, [], ◌∷◌, ◌++◌, map, filter, reverse, if◌then◌else◌, Option, Some, None, option_to_list, unwrap_or, bytes_eq}
use Rattle.std.specs.List.{list_any}
use Rattle.serde_json.specs.Data.{Data, null, boolean, number, string, array, object, Items, no_items, item, Members, no_members, member, put, depth}
use Rattle.serde_json.specs.Find.{get_member}
use Rattle.serde_json.specs.View.{items_of}
use Rattle.ocds_merge.specs.Identified.{id_of, is_id_list}

-- ---- objects

-- "The longest run of objects at the column's end": any other value in between ends it. Example: `run_of_objects`.
abbrev pub object_run : List Data → List Members
object_run [] = []
object_run (null ∷ vs) = []
object_run (boolean b ∷ vs) = []
object_run (number n ∷ vs) = []
object_run (string s ∷ vs) = []
object_run (array ds ∷ vs) = []
object_run (object ms ∷ vs) = ms ∷ object_run vs

-- "Each member name has its own column in that run": the values that these objects have under a name. Example: `column_of_a_name`.
abbrev pub column_at : List ℕ → List Members → List Data
column_at k [] = []
column_at k (ms ∷ run) = option_to_list (get_member k ms) ++ column_at k run

abbrev pub names_of : Members → List (List ℕ)
names_of no_members = []
names_of (member k d ms) = k ∷ names_of ms

-- the names that occur in the run
abbrev pub names_in : List Members → List (List ℕ)
names_in [] = []
names_in (ms ∷ run) = names_of ms ++ names_in run

-- A member with this value, or none without a value: "null is absent". Example: `null_member`.
abbrev pub put_present : List ℕ → Option Data → Members → Members
put_present k None ms = ms
put_present k (Some d) ms = put k d ms

-- a member for each of these names, with the merge of its column; `put` keeps an object's names in order
abbrev pub merge_names : (List Data → Option Data) → List Members → List (List ℕ) → Members
merge_names merge run [] = no_members
merge_names merge run (k ∷ ks) = put_present k (merge (column_at k run)) (merge_names merge run ks)

-- "Each member name has the merge of its own column in that run." Example: `by_name`.
abbrev pub merge_objects : (List Data → Option Data) → List Members → Members
merge_objects merge run = merge_names merge run (names_in run)

-- ---- id lists

-- "The same run of id lists": the longest one at the column's end. Example: `run_of_id_lists`.
abbrev pub id_list_run : List Data → List Items
id_list_run [] = []
id_list_run (null ∷ vs) = []
id_list_run (boolean b ∷ vs) = []
id_list_run (number n ∷ vs) = []
id_list_run (string s ∷ vs) = []
id_list_run (array ds ∷ vs) = if is_id_list ds then ds ∷ id_list_run vs else []
id_list_run (object ms ∷ vs) = []

-- the items of one list in front of older items, its last item first
abbrev pub items_ahead : Items → List Data → List Data
items_ahead no_items older = older
items_ahead (item d ds) older = items_ahead ds (d ∷ older)

-- All items of the run, newest first. Example: `items_of_a_run`.
abbrev pub items_in : List Items → List Data
items_in [] = []
items_in (ds ∷ run) = items_ahead ds (items_in run)

-- "Ids in order of first appearance": an id comes after those of older items, and only if none of them has it. Example: `ids_by_first_appearance`.
abbrev pub ids_in : List Data → List (List ℕ)
ids_in [] = []
ids_in (d ∷ older) = if list_any (bytes_eq (id_of d)) (ids_in older) then ids_in older else ids_in older ++ id_of d ∷ []

-- "Each item is the merge of the items with that id" (these are objects, so the merge is an object).
abbrev pub merge_item : (List Data → Option Data) → List Data → List ℕ → Data
merge_item merge items id = unwrap_or (merge (filter (λ d. bytes_eq (id_of d) id) items)) null

-- One item for each id. Example: `by_id`.
abbrev pub merge_items : (List Data → Option Data) → List Data → List Data
merge_items merge items = map (merge_item merge items) (ids_in items)

-- ---- any column

-- The last value decides the kind. "If it is null, the place is absent. If it is a literal, or an array that is no id list, it is the last. If it is an
-- object, or an id list, the run of these at the column's end is merged." `merge` is the merge of values one level deeper. Examples: `last_literal`,
-- `last_plain_array`.
abbrev pub merge_level : (List Data → Option Data) → List Data → Option Data
merge_level merge [] = None
merge_level merge (null ∷ vs) = None
merge_level merge (boolean b ∷ vs) = Some (boolean b)
merge_level merge (number n ∷ vs) = Some (number n)
merge_level merge (string s ∷ vs) = Some (string s)
merge_level merge (array ds ∷ vs) =
    if is_id_list ds then Some (array (items_of (merge_items merge (items_in (id_list_run (array ds ∷ vs)))))) else Some (array ds)
merge_level merge (object ms ∷ vs) = Some (object (merge_objects merge (ms ∷ object_run vs)))

-- the merge of values that nest less than `n` levels
abbrev pub merge_within : ℕ → List Data → Option Data
merge_within zero vs = None
merge_within (suc n) vs = merge_level (merge_within n) vs

abbrev pub deepest_of : List Data → ℕ
deepest_of [] = 0
deepest_of (v ∷ vs) = max (depth v) (deepest_of vs)

-- the merge of a column that is listed newest first, to any depth
abbrev pub merge_newest_first : List Data → Option Data
merge_newest_first vs = merge_within (suc (deepest_of vs)) vs

-- The merge of a column in the order of the releases; `None` means absent. Example: `by_id_after_null`.
abbrev pub merge_of : List Data → Option Data
merge_of vs = merge_newest_first (reverse vs)

-- The merge of a column as one JSON value; `null` means absent. Example: `no_values`.
abbrev pub merge_or_null : List Data → Data
merge_or_null vs = unwrap_or (merge_of vs) null
