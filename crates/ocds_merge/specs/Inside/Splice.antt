-- The merge of a text and a value, member by member and item by item. No public clause uses this file.
use Rattle.std.specs.Prelude.{◌≡◌, ◌≢◌, ℕ, ◌<◌, ◌^◌, pos, negsuc, List, [], ◌∷◌, ◌++◌, Bool, true, false, ◌==◌, cond, Some, ⊤}
use Rattle.std.specs.declared.cmp.Ordering.TheVariants.{Less, Greater}
use Rattle.std.specs.Ordering.{nat_cmp}
use Rattle.std.specs.Cmp.Lexicographic.{slice_cmp}
use Rattle.serde_json.specs.Data.{Num, unsigned, negative, float, Data, null, boolean, number, string, array, object, Items, no_items, item, Members, no_members, member}
use Rattle.serde_json.specs.Find.{get_member}
use Rattle.serde_json.specs.View.{items_of}
use Rattle.serde_json.specs.Written.{compact_text, items_text, members_text}
use Rattle.ocds_merge.specs.Inside.Scan.{scan, between}
use Rattle.ocds_merge.specs.Identified.{all_have_id}
use Rattle.ocds_merge.specs.Inside.Step.{step_members, items_list}
use Rattle.ocds_merge.specs.Inside.Pending.{step_list}

-- an integer that a JSON text can have: 64 bits, with or without a sign
abbrev pub IsInRange : Num → Type 0
IsInRange (unsigned n) = n < 2 ^ 64
IsInRange (negative (pos n)) = ⊥
IsInRange (negative (negsuc n)) = n < 2 ^ 63
IsInRange (float x) = ⊥

-- all names come after this one
abbrev pub AllAbove : List ℕ → Members → Type 0
AllAbove k no_members = ⊤
AllAbove k (member l e ms) = (slice_cmp nat_cmp k l ≡ Less) × (slice_cmp nat_cmp l k ≡ Greater) × AllAbove k ms

-- the names of the members rise, so no name occurs twice
abbrev pub IsOrdered : Members → Type 0
IsOrdered no_members = ⊤
IsOrdered (member k d ms) = AllAbove k ms × IsOrdered ms

-- a value that is read back from its text: each object in the order of its names, each number an integer of 64 bits
abbrev mutual
  pub TextIsKept : Data → Type 0
  TextIsKept null = ⊤
  TextIsKept (boolean b) = ⊤
  TextIsKept (number n) = IsInRange n
  TextIsKept (string s) = ⊤
  TextIsKept (array ds) = AreItemsKept ds
  TextIsKept (object ms) = IsOrdered ms × AreMembersKept ms

  pub AreItemsKept : Items → Type 0
  AreItemsKept no_items = ⊤
  AreItemsKept (item d ds) = TextIsKept d × AreItemsKept ds

  pub AreMembersKept : Members → Type 0
  AreMembersKept no_members = ⊤
  AreMembersKept (member k d ms) = TextIsKept d × AreMembersKept ms

-- a value can end before this text
abbrev pub EndsBefore : List ℕ → Type 0
EndsBefore rest = scan 0 between rest ≡ rest

-- the text without a comma at its front
abbrev pub no_comma : List ℕ → List ℕ
no_comma [] = []
no_comma (c ∷ r) = cond (c == 44) r (c ∷ r)

-- The text is these members, in order, up to the end of their object, perhaps after a comma.
pub record StandAt (left : List ℕ) (ms : Members) (rest : List ℕ) : Type 0 where
  pub stands : no_comma left ≡ members_text false ms ++ rest
  pub order : IsOrdered ms
  pub kept : AreMembersKept ms

-- all names are this one or come after it
abbrev pub StartsFrom : List ℕ → Members → Type 0
StartsFrom k no_members = ⊤
StartsFrom k (member l e ms) = slice_cmp nat_cmp k l ≢ Greater

-- The invariant of the work on an object. The text so far, followed by the remaining old members with the remaining new ones merged in, stays the text of the
-- whole object. `later` says whether a member is already written.
abbrev pub SameText : List ℕ → Bool → Members → List ℕ → Bool → Members → Type 0
SameText old later before new more after = new ++ members_text more after ≡ old ++ members_text later before

-- The old members below a name are written; these old members are left.
pub record Passed (name : List ℕ) (d : Data) (ms ts : Members) (rest old : List ℕ) (later : Bool) (left new : List ℕ) (more : Bool) : Type 0 where
  pub others : Members
  pub stand : StandAt left others rest
  pub same : SameText old later (step_members ts (member name d ms)) new more (step_members others (member name d ms))

-- Some of the new members are merged into the object, and the result is written; these new members are pending.
pub record Merged (ts ms : Members) (rest old left new : List ℕ) (more : Bool) (pending : Members) : Type 0 where
  pub others : Members
  pub stand : StandAt left others rest
  pub same : SameText old false (step_members ts ms) new more (step_members others pending)

-- The first of the old members has this name, and this is the text from its value on.
pub record StartsWith (name value : List ℕ) (ts : Members) (rest : List ℕ) : Type 0 where
  pub old : Data
  pub others : Members
  pub is : ts ≡ member name old others
  pub text : value ≡ compact_text old ++ (members_text true others ++ rest)

-- The old members that were skipped don't have this name.
pub record Searched (name : List ℕ) (ts : Members) (rest left : List ℕ) : Type 0 where
  pub others : Members
  pub stand : StandAt left others rest
  pub same : get_member name others ≡ get_member name ts

-- One of the old members has this name, and this is the text from its value on.
pub record FoundAt (name : List ℕ) (ts : Members) (rest value : List ℕ) : Type 0 where
  pub old : Data
  pub others : Members
  pub found : get_member name ts ≡ Some old
  pub kept : TextIsKept old × AreMembersKept others
  pub text : value ≡ compact_text old ++ (members_text true others ++ rest)

-- the invariant of the work on an id list: the text so far, followed by the items that remain, stays the text of the whole list
abbrev pub SameItems : List ℕ → Bool → List Data → List ℕ → Bool → List Data → Type 0
SameItems old later before new more after = new ++ items_text more (items_of after) ≡ old ++ items_text later (items_of before)

-- Some old items of a list were merged or copied, and the result is written; these new items are pending.
pub record ItemsMerged (ds : Items) (ps : List Data) (rest old left new : List ℕ) (more : Bool) (left_pending : List Data) : Type 0 where
  pub others : Items
  pub stands : no_comma left ≡ items_text false others ++ rest
  pub kept : AreItemsKept others
  pub ids : all_have_id others ≡ true → all_have_id ds ≡ true
  pub same : SameItems old false (step_list (items_list ds) ps) new more (step_list (items_list others) left_pending)
