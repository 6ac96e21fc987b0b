-- A merge that is stored as text, and changed there.
use Rattle.std.specs.Prelude.{ℕ, ◌≡◌, ◌≤◌, false, List, Some, IsTrue, codes, is_some, option_and_then}
use Rattle.serde_json.specs.Data.{Data, Members, object, depth}
use Rattle.serde_json.specs.Read.{read, max_depth}
use Rattle.serde_json.specs.Written.{compact_text, has_float}
use Rattle.ocds_merge.specs.Identified.{text_member}
use Rattle.ocds_merge.specs.Merge.{merge_or_null}

-- the text is the compact text of the merge of these values, and is read as that merge
pub record KeepsMerge (text : List ℕ) (vs : List Data) : Type 0 where
  pub is : text ≡ compact_text (merge_or_null vs)
  pub reads : read text ≡ Some (merge_or_null vs)

-- The text is a JSON object as the office writes it. Its value has no float, and the text is the value's compact text. So it has no blanks. Its names are in
-- byte order, each once, since a value that is read has its names so.
pub record IsWrittenObject (text : List ℕ) : Type 0 where
  pub members : Members
  pub reads : read text ≡ Some (object members)
  pub written : text ≡ compact_text (object members)
  pub no_float : has_float (object members) ≡ false

-- The text is a merge of the process with this `ocid`, as the office writes it.
abbrev pub IsWrittenMerge : (ocid text : List ℕ) → Type 0
IsWrittenMerge ocid text = IsWrittenObject text × (option_and_then (text_member (codes "ocid")) (read text) ≡ Some ocid)

-- The text is a release of the process with this `ocid`, as the office writes it: its `date` is a text.
abbrev pub IsWrittenRelease : (ocid text : List ℕ) → Type 0
IsWrittenRelease ocid text = IsWrittenMerge ocid text × IsTrue (is_some (option_and_then (text_member (codes "date")) (read text)))

-- the value has no float, and nests no deeper than a JSON text may (127 levels)
pub record IsStorable (v : Data) : Type 0 where
  pub no_float : has_float v ≡ false
  pub shallow : depth v ≤ max_depth
