-- The releases of a notice: their number, their sequence and their moments.
use Rattle.std.specs.Prelude.{◌≡◌, ℕ, ◌+◌, ◌≤◌, Bool, cond, ◌&&◌, List, [], ◌∷◌, ◌++◌, filter, Option, option_to_list, is_some, IsSome, nat_le}
use Rattle.office_values.specs.Ids.{same_id}
use Rattle.office_base.specs.Limits.{release_limit}
use Rattle.office_base.specs.Rows.{holds_of}
use Rattle.office_base.specs.Tables.{Tables, notice_at, release_at, releases_of_notice}
use Rattle.office_base.specs.declared.records.ReleaseRow.{ReleaseRow}
use Rattle.office_machine.specs.Publications.{published_for}
use Rattle.office_machine.specs.Counted.{releases_in}
use Rattle.office_machine.specs.Machine.{Means, Given, Reaches, publication}

-- There is a notice, and it is this one.
abbrev pub names_notice : List ℕ → Option (List ℕ) → Bool
names_notice notice o = holds_of (λ n. same_id n notice) o

-- The number of releases that accepted commands published for a notice.
abbrev pub releases_by : List Given → List ℕ → ℕ
releases_by [] notice = 0
releases_by (x ∷ xs) notice = cond (names_notice notice (published_for x.before x.command)) 1 0 + releases_by xs notice

-- The notice's row counts the releases that the commands published for it, and there are at most `release_limit`.
pub record AreCounted (notice : List ℕ) (xs : List Given) (t : Tables) : Type 0 where
  pub counted : releases_in (notice_at notice t) ≡ releases_by xs notice
  pub within : releases_in (notice_at notice t) ≤ release_limit

-- The law: this is true of every notice in every reached office.
abbrev pub ReleasesAreCounted : Type 0
ReleasesAreCounted = (means : Means) (xs : List Given) (t : Tables) → Reaches means xs t → (notice : List ℕ) → AreCounted notice xs t

-- Each notice has a release of each number from 1 to its count, and no other.
abbrev pub AreNumbered : Tables → Type 0
AreNumbered t = (notice : List ℕ) (number : ℕ) → is_some (release_at (notice, number) t) ≡ (nat_le 1 number && nat_le number (releases_in (notice_at notice t)))

-- A release is made of each command that publishes one.
abbrev pub MakesReleases : Means → Type 0
MakesReleases means = (x : Given) → IsSome (published_for x.before x.command) → IsSome (means.release x)

-- The law: if so, the releases of every reached office are numbered without a gap.
abbrev pub ReleasesAreNumbered : Type 0
ReleasesAreNumbered = (means : Means) → MakesReleases means → (xs : List Given) (t : Tables) → Reaches means xs t → AreNumbered t

-- The release that a command publishes for this notice: a list of at most one.
abbrev pub published_of : Means → Given → List ℕ → List ReleaseRow
published_of means x notice = filter (λ (r : ReleaseRow). same_id r.notice notice) (option_to_list (publication means x))

-- The releases that accepted commands published for a notice, the first one first.
abbrev pub published_by : Means → List Given → List ℕ → List ReleaseRow
published_by means [] notice = []
published_by means (x ∷ xs) notice = published_by means xs notice ++ published_of means x notice

-- The law: in every reached office, the stored releases of a notice are the published ones, in their sequence.
abbrev pub ReleasesArePublished : Type 0
ReleasesArePublished = (means : Means) (xs : List Given) (t : Tables) → Reaches means xs t → (notice : List ℕ) → releases_of_notice notice t ≡ published_by means xs notice

-- No release has an earlier moment than the one before it.
abbrev pub MomentsNeverFall : List ReleaseRow → Type 0
MomentsNeverFall [] = Unit {0}
MomentsNeverFall (r ∷ []) = Unit {0}
MomentsNeverFall (r ∷ later ∷ rows) = (r.moment ≤ later.moment) × MomentsNeverFall (later ∷ rows)

-- The law: the releases of a notice, in the sequence of their numbers, are in the order of their moments. OCDS 1.1 merges them by date ("Merging").
abbrev pub ReleasesAreInTime : Type 0
ReleasesAreInTime = (means : Means) (xs : List Given) (t : Tables) → Reaches means xs t → (notice : List ℕ) → MomentsNeverFall (releases_of_notice notice t)
