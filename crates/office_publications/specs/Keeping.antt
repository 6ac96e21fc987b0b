-- The changes that an accepted command makes in an office that publishes: those of the specification, and the merge that its release joins.
use Rattle.std.specs.Prelude.{◌≡◌, ℕ, ◌+◌, Bool, true, false, ◌||◌, nat_eq, List, ◌∷◌, [], ◌++◌, Option, Some, None, is_some, slice_get}
use Rattle.serde_json.specs.Written.{compact_text}
use Rattle.ocds_merge.specs.Merge.{merge_or_null}
use Rattle.ocds_merge.specs.Stored.{KeepsMerge}
use Rattle.ocds_release.specs.Texts.{ocid_text}
use Rattle.ocds_release.specs.declared.event.Event.{Event}
use Rattle.office_values.specs.declared.settings.Publisher.{Publisher}
use Rattle.office_base.specs.declared.puts.Put.{Put}
use Rattle.office_base.specs.declared.puts.Put.TheVariants as puts
use Rattle.office_base.specs.declared.records.CompiledRow.{CompiledRow}
use Rattle.office_base.specs.declared.records.ReleaseRow.{ReleaseRow}
use Rattle.office_base.specs.Tables.{Tables, IsSorted, no_tables, notice_at, release_at, releases_of_notice, after_puts}
use Rattle.office_machine.specs.Machine.{Given, CanBeGiven, Reaches, effect, next, publication, puts_of, refusal_of, release_row, with_merges}
use Rattle.office_machine.specs.Counted.{releases_in}
use Rattle.office_machine.specs.OfficeMeans.{office_readings}
use Rattle.office_machine.specs.Publications.{published_for}
use Rattle.office_publications.specs.Events.{event_of}
use Rattle.office_publications.specs.Merges.{CanBeMerged, AreMerged, AreReleases, AreReleasesOf, AreSoMany, HasMerge, IsMergedOf, bodies, body_in}
use Rattle.office_publications.specs.Publishing.{publishing, text_by}

-- The row of the merge of a notice's releases and one more.
abbrev pub merged_row : Tables → ReleaseRow → CompiledRow
merged_row s r = record { notice = r.notice; text = compact_text (merge_or_null (bodies r.notice s ++ (body_in r ∷ []))) }

-- The change that stores the merge with a release, if there is a release.
abbrev pub merge_puts : Tables → Option ReleaseRow → List Put
merge_puts s None = []
merge_puts s (Some r) = puts.Compiled (merged_row s r) ∷ []

-- All changes that an accepted command makes, with the merge that its release joins.
abbrev pub kept_puts : Publisher → Given → List Put
kept_puts publisher x = puts_of (publishing publisher) x ++ merge_puts x.before (publication (publishing publisher) x)

-- The office after an accepted command, with the merges beside it.
abbrev pub next_with_merges : Publisher → Given → Tables
next_with_merges publisher x = after_puts (kept_puts publisher x) x.before

-- All releases can be merged, and each stored merge is that of its notice's releases.
pub record KeepsReleases (t : Tables) : Type 0 where
  pub releases : AreReleases t
  pub merged : AreMerged t

-- All releases of this notice can be merged, and its merge, if stored, is that of these releases.
pub record KeepsReleasesOf (notice : List ℕ) (t : Tables) : Type 0 where
  pub releases : AreReleasesOf notice t
  pub merged : IsMergedOf notice t

-- This is true of the notice for which the command publishes a release. A command that publishes nothing needs nothing.
abbrev pub KeepsItsReleases : Given → Type 0
KeepsItsReleases x = (notice : List ℕ) → published_for x.before x.command ≡ Some notice → KeepsReleasesOf notice x.before

-- The last release of the notice exists, unless the notice has none.
abbrev pub has_last_release : List ℕ → ℕ → Tables → Bool
has_last_release notice releases t = nat_eq releases 0 || is_some (release_at (notice, releases) t)

-- A release of this notice has this number.
abbrev pub has_release : List ℕ → ℕ → Tables → Bool
has_release notice number t = is_some (release_at (notice, number) t)

-- A new release can follow in this notice. Its releases have the numbers from 1 to its count, and no others, so the last one exists, and none has the next
-- number. Its merge or, if none is stored, each release is of this notice, as this publisher's office writes it.
pub record CanBeFollowed (publisher : Publisher) (notice : List ℕ) (t : Tables) : Type 0 where
  pub counted : AreSoMany notice (releases_in (notice_at notice t)) t
  pub last : has_last_release notice (releases_in (notice_at notice t)) t ≡ true
  pub next : has_release notice (releases_in (notice_at notice t) + 1) t ≡ false
  pub merge : HasMerge (ocid_text publisher.prefix notice) notice t

-- This is true of the notice for which the command publishes a release. A command that publishes nothing needs nothing.
abbrev pub FollowsReleases : Publisher → Given → Type 0
FollowsReleases publisher x = (notice : List ℕ) → published_for x.before x.command ≡ Some notice → CanBeFollowed publisher notice x.before

-- The release and the merge that it joins can be read back. The definitions have numbers of any size, but a number of more than 64 bits in a text is read as a
-- float. So this isn't true of every release, only of those that code made.
pub record ReadsBack (s : Tables) (r : ReleaseRow) : Type 0 where
  pub release : CanBeMerged r
  pub merge : KeepsMerge (merged_row s r).text (bodies r.notice s ++ (body_in r ∷ []))

-- The release that a command publishes can be read back, and so can its merge.
abbrev pub PublicationReadsBack : Publisher → Given → Type 0
PublicationReadsBack publisher x = (r : ReleaseRow) → publication (publishing publisher) x ≡ Some r → ReadsBack x.before r

-- ---- laws

-- The law: if a notice has the releases with the numbers from 1 to this one, and no others, then its last release exists, and none has the next number.
abbrev pub NumbersTellTheLast : Type 0
NumbersTellTheLast = (notice : List ℕ) (count : ℕ) (t : Tables) → IsSorted t → AreSoMany notice count t
    → (has_last_release notice count t ≡ true) × (has_release notice (count + 1) t ≡ false)

-- The law: then each of its releases is at the place that its number says.
abbrev pub NumbersTellThePlaces : Type 0
NumbersTellThePlaces = (notice : List ℕ) (count : ℕ) (t : Tables) → IsSorted t → AreSoMany notice count t
    → (k : ℕ) → slice_get (releases_of_notice notice t) k ≡ release_at (notice, k + 1) t

-- The law: a command that is no event publishes nothing.
abbrev pub NoEventPublishesNothing : Type 0
NoEventPublishesNothing = (publisher : Publisher) (x : Given) → event_of x.before x.command ≡ None → publication (publishing publisher) x ≡ None

-- The law: a command that is an event of a notice publishes the event's release, with the notice's next number and the command's moment.
abbrev pub EventsAreReleased : Type 0
EventsAreReleased = (publisher : Publisher) (x : Given) (e : Event) (notice : List ℕ) → event_of x.before x.command ≡ Some e
    → published_for x.before x.command ≡ Some notice → publication (publishing publisher) x ≡ Some (release_row x notice (text_by publisher x e))

-- The law: a command that is no event makes no change besides its effect.
abbrev pub NoEventPutsItsEffect : Type 0
NoEventPutsItsEffect = (publisher : Publisher) (x : Given) → event_of x.before x.command ≡ None → kept_puts publisher x ≡ effect office_readings x

-- The law: a command that is an event of a notice makes its effect, and puts its release and the merge that this joins.
abbrev pub EventsPutReleases : Type 0
EventsPutReleases = (publisher : Publisher) (x : Given) (e : Event) (notice : List ℕ) → event_of x.before x.command ≡ Some e
    → published_for x.before x.command ≡ Some notice → kept_puts publisher x ≡ effect office_readings x
    ++ (puts.Release (release_row x notice (text_by publisher x e)) ∷ puts.Compiled (merged_row x.before (release_row x notice (text_by publisher x e))) ∷ [])

-- The law: the office after a command is that of the specification, with the merges beside it.
abbrev pub MergesStandBeside : Type 0
MergesStandBeside = (publisher : Publisher) (x : Given) → next_with_merges publisher x ≡ with_merges (next_with_merges publisher x).compiled (next (publishing publisher) x)

-- The law: accepted commands lead to this office.
abbrev pub KeptStepsReach : Type 0
KeptStepsReach = (publisher : Publisher) (xs : List Given) (x : Given) → Reaches (publishing publisher) xs x.before → CanBeGiven x → refusal_of x ≡ None
    → Reaches (publishing publisher) (x ∷ xs) (next_with_merges publisher x)

-- The law: if releases and merges are right before an accepted command, they are right after it, provided that its release and merge can be read back.
abbrev pub ReleasesStayKept : Type 0
ReleasesStayKept = (publisher : Publisher) (xs : List Given) (x : Given) → Reaches (publishing publisher) xs x.before → CanBeGiven x → refusal_of x ≡ None
    → PublicationReadsBack publisher x → KeepsReleases x.before → KeepsReleases (next_with_merges publisher x)

-- The law: in the empty office releases and merges are right.
abbrev pub NothingIsKeptAtFirst : Type 0
NothingIsKeptAtFirst = KeepsReleases no_tables
