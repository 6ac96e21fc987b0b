-- The published releases of a notice, and the rows that store them.
use Rattle.std.specs.Prelude.{◌≡◌, ◌≤◌, ◌<◌, ◌+◌, ℕ, List, Some, length, slice_get, All}
use Rattle.ocds_merge.specs.Compile.{with_head}
use Rattle.ocds_merge.specs.Merge.{merge_or_null}
use Rattle.ocds_merge.specs.Stored.{IsWrittenRelease}
use Rattle.ocds_release.specs.KeptReleases.{AreKept, HasText}
use Rattle.ocds_release.specs.Opened.{moment_of_last}
use Rattle.ocds_release.specs.Texts.{ocid_text}
use Rattle.office_values.specs.Moments.{last_moment, moment_text}
use Rattle.office_values.specs.declared.settings.Publisher.{Publisher}
use Rattle.office_base.specs.Limits.{release_limit}
use Rattle.office_base.specs.Tables.{Tables, notice_at, release_at, releases_of_notice}
use Rattle.office_base.specs.declared.records.ReleaseRow.{ReleaseRow}
use Rattle.office_machine.specs.Counted.{releases_in}
use Rattle.office_publications.specs.Merges.{AreSoMany, bodies}
use Rattle.office_publications.specs.Packages.{releases_told, compiled_told}
use Rattle.office_publications.specs.Standing.{IsReached}

-- The moment has a text: it isn't after 2099.
abbrev pub IsInRange : ReleaseRow → Type 0
IsInRange r = r.moment ≤ last_moment

-- The law: each row has the compact text of its release, and the release's date is its moment.
abbrev pub ReleasesAreTold : Type 0
ReleasesAreTold = (publisher : Publisher) (s : Tables) → IsReached publisher s → (notice : List ℕ)
    → AreKept (releases_of_notice notice s) (releases_told notice s)

-- The compiled release of a notice is the merge of its releases, under a head with the last release's moment. It can be written as a text.
pub record IsCompiled (publisher : Publisher) (notice : List ℕ) (s : Tables) : Type 0 where
  pub is : compiled_told publisher notice s
      ≡ with_head (ocid_text publisher.prefix notice) (moment_text (moment_of_last (releases_of_notice notice s))) (merge_or_null (bodies notice s))
  pub has_text : HasText (compiled_told publisher notice s)

-- The law: this is true if the notice has releases, each at a moment that has a text.
abbrev pub RecordsAreCompiled : Type 0
RecordsAreCompiled = (publisher : Publisher) (s : Tables) → IsReached publisher s → (notice : List ℕ) → 0 < length (releases_of_notice notice s)
    → All IsInRange (releases_of_notice notice s) → IsCompiled publisher notice s

-- Each release of a notice is at the place that its number says. Their numbers are those from 1 to the count in the notice's row, at most `release_limit`.
pub record AreInSequence (notice : List ℕ) (s : Tables) : Type 0 where
  pub place : (k : ℕ) → slice_get (releases_of_notice notice s) k ≡ release_at (notice, k + 1) s
  pub counted : releases_in (notice_at notice s) ≡ length (releases_of_notice notice s)
  pub numbered : AreSoMany notice (releases_in (notice_at notice s)) s
  pub within : length (releases_of_notice notice s) ≤ release_limit

-- The law: this is true of every notice in an office that its commands made.
abbrev pub ReleasesAreInSequence : Type 0
ReleasesAreInSequence = (publisher : Publisher) (s : Tables) → IsReached publisher s → (notice : List ℕ) → AreInSequence notice s

-- Each release of the notice up to this number exists, and is one of the process with this `ocid`, as the office writes it.
abbrev pub AreAllThere : (ocid notice : List ℕ) → ℕ → Tables → Type 0
AreAllThere ocid notice count s = (k : ℕ) → k < count → (r : ReleaseRow) × (release_at (notice, k + 1) s ≡ Some r) × IsWrittenRelease ocid r.text

-- The notice has the releases that its row counts, each as this publisher's office writes it, and no others. It is asked of any office, even of one to which no
-- commands lead.
pub record HasReleases (publisher : Publisher) (notice : List ℕ) (s : Tables) : Type 0 where
  pub there : AreAllThere (ocid_text publisher.prefix notice) notice (releases_in (notice_at notice s)) s
  pub numbered : AreSoMany notice (releases_in (notice_at notice s)) s
