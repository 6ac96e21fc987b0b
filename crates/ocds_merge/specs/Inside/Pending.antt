-- The new items of an id list, while they are merged into the old items of a text, which is read once. No public clause uses this file.
use Rattle.std.specs.Prelude.{List, [], ◌∷◌, Bool, cond, None, unwrap_or}
use Rattle.serde_json.specs.Data.{Data, null, Items, item}
use Rattle.ocds_merge.specs.Identified.{id_of}
use Rattle.ocds_merge.specs.Inside.Step.{step, find_item, set_item, Lacks}

-- no two items have the same id
abbrev pub HaveDistinctIds : List Data → Type 0
HaveDistinctIds [] = Unit {0}
HaveDistinctIds (d ∷ ds) = Lacks (id_of d) ds × HaveDistinctIds ds

-- the merge of one value alone
abbrev pub alone : Data → Data
alone d = unwrap_or (step None d) null

abbrev pub unless : Bool → Data → Items → Items
unless is_done d ds = cond is_done ds (item d ds)

-- the items that aren't merged yet
abbrev pub pending : List Data → List Bool → List Data
pending [] done = []
pending (d ∷ ds) [] = d ∷ ds
pending (d ∷ ds) (is_done ∷ done) = cond is_done (pending ds done) (d ∷ pending ds done)

-- the list after one new item is merged into it
abbrev pub with_item : Data → List Data → List Data
with_item d ts = set_item (id_of d) (unwrap_or (step (find_item (id_of d) ts) d) null) ts

-- the list after new items are merged into it, as `step_items` does
abbrev pub step_list : List Data → List Data → List Data
step_list ts [] = ts
step_list ts (d ∷ ds) = step_list (with_item d ts) ds
