-- Texts that are the compact text of a value and are read back as that value. No public clause uses this file.
use Rattle.std.specs.Prelude.{◌≡◌, ◌≤◌, ℕ, List, [], ◌∷◌, ◌++◌, Bool, true, false, Some, IsTrue, ⊤}
use Rattle.std.specs.declared.cmp.Ordering.TheVariants.{Greater}
use Rattle.std.specs.Ordering.{nat_cmp}
use Rattle.std.specs.Cmp.Lexicographic.{slice_cmp}
use Rattle.json.specs.Print.{quoted}
use Rattle.serde_json.specs.Data.{Data, object, Items, Members, depth, items_depth, members_depth}
use Rattle.serde_json.specs.Read.{read}
use Rattle.serde_json.specs.Written.{compact_text, items_text, members_text, comma_if}
use Rattle.ocds_merge.specs.Inside.Splice.{TextIsKept, AreItemsKept, AllAbove}

-- all names come after the last one, if there is a last one
abbrev pub AllAfter : Bool → List ℕ → Members → Type 0
AllAfter false last ms = ⊤
AllAfter true last ms = AllAbove last ms

-- the text is a value followed by the rest
pub record Passed (text rest : List ℕ) (deep : ℕ) : Type 0 where
  pub value : Data
  pub kept : TextIsKept value
  pub shallow : depth value ≤ deep
  pub is : text ≡ compact_text value ++ rest

-- The text is the items of an array, with its closing bracket, followed by the rest. A comma comes first if an item is before them.
pub record ItemsFrom (text : List ℕ) (later : Bool) (rest : List ℕ) (deep : ℕ) : Type 0 where
  pub items : Items
  pub kept : AreItemsKept items
  pub shallow : items_depth items ≤ deep
  pub is : text ≡ items_text later items ++ rest

-- the text is the members of an object, with its closing bracket, followed by the rest; their names come after the last one before them
pub record MembersFrom (text : List ℕ) (later : Bool) (last rest : List ℕ) (deep : ℕ) : Type 0 where
  pub members : Members
  pub after : AllAfter later last members
  pub kept : TextIsKept (object members)
  pub shallow : members_depth members ≤ deep
  pub is : text ≡ members_text later members ++ rest

-- the text begins with a member of this name, which comes after the last one, and this is the text from its value on
pub record NextMember (text : List ℕ) (later : Bool) (last name value : List ℕ) : Type 0 where
  pub whole : List ℕ
  pub comma : text ≡ comma_if later ++ whole
  pub form : whole ≡ quoted name ++ 58 ∷ value
  pub turn : IsTrue later → slice_cmp nat_cmp name last ≡ Greater

-- the text after the opening bracket of an array
abbrev pub PassedItems : List ℕ → List ℕ → ℕ → Type 0
PassedItems text rest deep = ItemsFrom text false rest deep

-- the text after the opening bracket of an object
abbrev pub PassedMembers : List ℕ → List ℕ → ℕ → Type 0
PassedMembers text rest deep = MembersFrom text false [] rest deep

-- Items or members were read from one place of the text to another: if the second place begins the remaining ones, the first begins them all.
abbrev pub ItemsRead : List ℕ → Bool → List ℕ → Bool → ℕ → Type 0
ItemsRead text later text' later' deep = (rest : List ℕ) → ItemsFrom text' later' rest deep → ItemsFrom text later rest deep

abbrev pub MembersRead : List ℕ → Bool → List ℕ → List ℕ → Bool → List ℕ → ℕ → Type 0
MembersRead text later last text' later' last' deep = (rest : List ℕ) → MembersFrom text' later' last' rest deep → MembersFrom text later last rest deep

-- the text is the compact text of a value, and is read as that value
pub record Reads (text : List ℕ) : Type 0 where
  pub value : Data
  pub kept : TextIsKept value
  pub is : text ≡ compact_text value
  pub reads : read text ≡ Some value
