-- The merge of a notice's releases, as it is stored beside them.
use Rattle.std.specs.Prelude.{◌≡◌, ℕ, List, ◌∷◌, [], ◌++◌, map, filter, Some, None, unwrap_or, All, false}
use Rattle.serde_json.specs.Data.{Data, null}
use Rattle.serde_json.specs.Read.{read}
use Rattle.serde_json.specs.Written.{compact_text, has_float}
use Rattle.ocds_merge.specs.Compile.{body_of}
use Rattle.ocds_merge.specs.Stored.{KeepsMerge, IsWrittenMerge, IsWrittenRelease, IsStorable}
use Rattle.office_values.specs.Ids.{same_id}
use Rattle.office_base.specs.Tables.{Tables, compiled_at, put_compiled, release_numbers, releases_of_notice}
use Rattle.office_base.specs.declared.records.CompiledRow.{CompiledRow}
use Rattle.office_base.specs.declared.records.ReleaseRow.{ReleaseRow}
use Rattle.office_machine.specs.Fates.{numbers}
use Rattle.office_publications.specs.declared.merges.Kept.{Kept}
use Rattle.office_publications.specs.declared.merges.Kept.TheVariants.{Merge, Releases}

-- A stored release as data; `null` if its text isn't JSON.
abbrev pub data_in : ReleaseRow → Data
data_in r = unwrap_or (read r.text) null

-- The release can be read, it is written as compact text without floats, and its body can be stored in a merge.
pub record CanBeMerged (r : ReleaseRow) : Type 0 where
  pub release : Data
  pub reads : read r.text ≡ Some release
  pub written : r.text ≡ compact_text release
  pub no_float : has_float release ≡ false
  pub storable : IsStorable (body_of release)

-- A stored release without its head.
abbrev pub body_in : ReleaseRow → Data
body_in r = body_of (data_in r)

-- The releases of a notice without their heads.
abbrev pub bodies : List ℕ → Tables → List Data
bodies notice t = map body_in (releases_of_notice notice t)

-- All releases of a notice can be merged.
abbrev pub AreReleasesOf : List ℕ → Tables → Type 0
AreReleasesOf notice t = All CanBeMerged (releases_of_notice notice t)

-- If a merge is stored for a notice, it is that of the notice's releases.
abbrev pub IsMergedOf : List ℕ → Tables → Type 0
IsMergedOf notice t = (c : CompiledRow) → compiled_at notice t ≡ Some c → KeepsMerge c.text (bodies notice t)

-- All releases can be merged.
abbrev pub AreReleases : Tables → Type 0
AreReleases t = (notice : List ℕ) → AreReleasesOf notice t

-- Each stored merge is that of its notice's releases.
abbrev pub AreMerged : Tables → Type 0
AreMerged t = (notice : List ℕ) → IsMergedOf notice t

-- The row has the merge of these bodies.
pub record IsMerge (notice : List ℕ) (vs : List Data) (c : CompiledRow) : Type 0 where
  pub of_notice : c.notice ≡ notice
  pub keeps : KeepsMerge c.text vs

-- The loaded value is the stored merge of a notice's releases or, if none is stored, the releases.
abbrev pub IsKeptOf : List ℕ → Tables → Kept → Type 0
IsKeptOf notice t (Merge c) = compiled_at notice t ≡ Some c
IsKeptOf notice t (Releases rows) = (compiled_at notice t ≡ None) × (rows ≡ releases_of_notice notice t)

-- Each of these rows has a release of the process with this `ocid`, as the office writes it.
abbrev pub AreWritten : (ocid : List ℕ) → List ReleaseRow → Type 0
AreWritten ocid rows = All (λ (r : ReleaseRow). IsWrittenRelease ocid r.text) rows

-- The loaded value can be continued: the merge or, if none is stored, each release is of the process with this `ocid`, as the office writes it.
abbrev pub CanGoOn : (ocid : List ℕ) → Kept → Type 0
CanGoOn ocid (Merge c) = IsWrittenMerge ocid c.text
CanGoOn ocid (Releases rows) = AreWritten ocid rows

-- The stored merge of this notice or, if none is stored, each of its releases is of the process with this `ocid`, as the office writes it.
abbrev pub HasMerge : (ocid notice : List ℕ) → Tables → Type 0
HasMerge ocid notice t =
    ((c : CompiledRow) → compiled_at notice t ≡ Some c → IsWrittenMerge ocid c.text) × (compiled_at notice t ≡ None → AreWritten ocid (releases_of_notice notice t))

-- The notice has a release of each number from 1 to this one, and no other.
abbrev pub AreSoMany : List ℕ → ℕ → Tables → Type 0
AreSoMany notice count t = release_numbers notice t ≡ numbers 1 count

-- A release and the merge with it are put. The notice has one release more, and other notices keep theirs.
pub record IsPublished (s t : Tables) (r : ReleaseRow) (c : CompiledRow) : Type 0 where
  pub releases : (notice : List ℕ) → releases_of_notice notice t ≡ releases_of_notice notice s ++ filter (λ (r : ReleaseRow). same_id r.notice notice) (r ∷ [])
  pub compiled : t.compiled ≡ put_compiled s.compiled c
  pub merge : IsMerge r.notice (bodies r.notice s ++ (body_in r ∷ [])) c

-- The law: then each stored merge is still that of its notice's releases.
abbrev pub MergesStay : Type 0
MergesStay = (s t : Tables) (r : ReleaseRow) (c : CompiledRow) → IsPublished s t r c → AreMerged s → AreMerged t

-- The law: if the new release can be merged, all releases still can be merged.
abbrev pub ReleasesStay : Type 0
ReleasesStay = (s t : Tables) (r : ReleaseRow) (c : CompiledRow) → IsPublished s t r c → CanBeMerged r → AreReleases s → AreReleases t

-- The law: releases that can be merged can be stored without their heads.
abbrev pub BodiesAreStorable : Type 0
BodiesAreStorable = (t : Tables) (notice : List ℕ) → AreReleases t → All IsStorable (bodies notice t)
