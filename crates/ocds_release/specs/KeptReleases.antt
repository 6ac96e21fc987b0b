-- Releases that are stored as texts.
use Rattle.std.specs.Prelude.{◌≡◌, List, [], ◌∷◌, false}
use Rattle.serde_json.specs.Data.{Data}
use Rattle.serde_json.specs.Written.{compact_text, has_float}
use Rattle.office_values.specs.Moments.{moment_text}
use Rattle.office_base.specs.declared.records.ReleaseRow.{ReleaseRow}
use Rattle.ocds_merge.specs.Compile.{date_of}
use Rattle.ocds_release.specs.Objects.{is_empty_list}

-- the row stores this release: its compact text, and the moment of its date
pub record ReleaseIsKept (row : ReleaseRow) (release : Data) : Type 0 where
  pub text : row.text ≡ compact_text release
  pub date : date_of release ≡ moment_text row.moment

-- the rows store these releases, one each, in their order
abbrev pub AreKept : List ReleaseRow → List Data → Type 0
AreKept [] [] = Unit {0}
AreKept [] (d ∷ ds) = ⊥
AreKept (r ∷ rs) [] = ⊥
AreKept (r ∷ rs) (d ∷ ds) = ReleaseIsKept r d × AreKept rs ds

-- a value that a package shows and whose text is known: it has no float, and is no empty list
pub record HasText (d : Data) : Type 0 where
  pub no_float : has_float d ≡ false
  pub filled : is_empty_list d ≡ false
