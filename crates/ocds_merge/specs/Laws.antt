-- Definitions for the laws of the merge, which are the contracts of the functions in `src/laws.rt`.
use Rattle.std.specs.Prelude.{◌≡◌, ℕ, List, [], ◌∷◌, Bool, true, false, bytes_eq}
use Rattle.std.specs.Ordering.{nat_cmp, is_lt}
use Rattle.std.specs.Cmp.Lexicographic.{slice_cmp}
use Rattle.std.specs.List.Sorted.{IsStrictlySortedBy}
use Rattle.serde_json.specs.Data.{Data, null, boolean, number, string, array, object, Items, no_items, item, Members, no_members, member}
use Rattle.ocds_merge.specs.Identified.{is_id_list}
use Rattle.ocds_merge.specs.Merge.{names_of}
use Rattle.ocds_merge.specs.Compile.{date_of}

-- In each object that a merge reads, the names are in order and each occurs once. This is so in every `Value`, but not in all data of the definitions.
abbrev mutual
  pub IsProper : Data → Type 0
  IsProper null = Unit {0}
  IsProper (boolean b) = Unit {0}
  IsProper (number n) = Unit {0}
  IsProper (string s) = Unit {0}
  IsProper (array ds) = is_id_list ds ≡ true → AreItemsProper ds
  IsProper (object ms) = IsStrictlySortedBy (slice_cmp nat_cmp) (names_of ms) × AreMembersProper ms

  pub AreItemsProper : Items → Type 0
  AreItemsProper no_items = Unit {0}
  AreItemsProper (item d ds) = IsProper d × AreItemsProper ds

  pub AreMembersProper : Members → Type 0
  AreMembersProper no_members = Unit {0}
  AreMembersProper (member k d ms) = IsProper d × AreMembersProper ms

-- no release is earlier than the one before it
abbrev pub IsInDateOrder : List Data → Type 0
IsInDateOrder [] = Unit {0}
IsInDateOrder (d ∷ []) = Unit {0}
IsInDateOrder (d ∷ e ∷ es) = (is_lt (slice_cmp nat_cmp (date_of e) (date_of d)) ≡ false) × IsInDateOrder (e ∷ es)

-- whether a release has this date
abbrev pub is_dated : List ℕ → Data → Bool
is_dated date d = bytes_eq (date_of d) date
