-- One more value is merged into a merge, as the code does it. No public clause uses this file; proofs connect it to the merge of a column.
use Rattle.std.specs.Prelude.{◌≡◌, ℕ, List, [], ◌∷◌, false, if◌then◌else◌, Option, Some, None, unwrap_or, bytes_eq}
use Rattle.serde_json.specs.Data.{Data, null, boolean, number, string, array, object, Items, no_items, item, Members, no_members, member}
use Rattle.serde_json.specs.Find.{get_member}
use Rattle.serde_json.specs.View.{items_of}
use Rattle.ocds_merge.specs.Identified.{id_of, is_id_list}
use Rattle.ocds_merge.specs.Merge.{put_present}
use Rattle.ocds_merge.specs.Compile.{members_without}

abbrev pub items_list : Items → List Data
items_list no_items = []
items_list (item d ds) = d ∷ items_list ds

-- the members into which an object is merged: none if the old value is no object
abbrev pub object_of : Option Data → Members
object_of None = no_members
object_of (Some null) = no_members
object_of (Some (boolean b)) = no_members
object_of (Some (number n)) = no_members
object_of (Some (string s)) = no_members
object_of (Some (array ds)) = no_members
object_of (Some (object ms)) = ms

-- the items into which an id list is merged: none if the old value is no id list
abbrev pub id_list_of : Option Data → List Data
id_list_of None = []
id_list_of (Some null) = []
id_list_of (Some (boolean b)) = []
id_list_of (Some (number n)) = []
id_list_of (Some (string s)) = []
id_list_of (Some (array ds)) = if is_id_list ds then items_list ds else []
id_list_of (Some (object ms)) = []

-- the first item with this id, if there is one
abbrev pub find_item : List ℕ → List Data → Option Data
find_item i [] = None
find_item i (d ∷ ds) = if bytes_eq (id_of d) i then Some d else find_item i ds

-- replaces the first item with this id, or adds the item at the end
abbrev pub set_item : List ℕ → Data → List Data → List Data
set_item i x [] = x ∷ []
set_item i x (d ∷ ds) = if bytes_eq (id_of d) i then x ∷ ds else d ∷ set_item i x ds

-- the merge after one more value
abbrev mutual
  pub step : Option Data → Data → Option Data
  step t null = None
  step t (boolean b) = Some (boolean b)
  step t (number n) = Some (number n)
  step t (string s) = Some (string s)
  step t (array ds) = if is_id_list ds then Some (array (items_of (step_items (id_list_of t) ds))) else Some (array ds)
  step t (object ms) = Some (object (step_members (object_of t) ms))

  pub step_items : List Data → Items → List Data
  step_items ts no_items = ts
  step_items ts (item d ds) = step_items (set_item (id_of d) (unwrap_or (step (find_item (id_of d) ts) d) null) ts) ds

  pub step_members : Members → Members → Members
  step_members ts no_members = ts
  step_members ts (member k d ms) = step_members (put_present k (step (get_member k ts) d) (members_without k ts)) ms

-- no item has this id
abbrev pub Lacks : List ℕ → List Data → Type 0
Lacks i [] = Unit {0}
Lacks i (d ∷ ds) = (bytes_eq (id_of d) i ≡ false) × Lacks i ds

-- `null` means absent
abbrev pub not_null : Data → Option Data
not_null null = None
not_null (boolean b) = Some (boolean b)
not_null (number n) = Some (number n)
not_null (string s) = Some (string s)
not_null (array ds) = Some (array ds)
not_null (object ms) = Some (object ms)
