-- The release of each command that publishes.
use Rattle.std.specs.Prelude.{ℕ, ◌+◌, List, Option, option_map, option_and_then}
use Rattle.serde_json.specs.Written.{compact_text}
use Rattle.office_values.specs.declared.settings.Publisher.{Publisher}
use Rattle.office_base.specs.Tables.{notice_at}
use Rattle.office_base.specs.declared.records.NoticeRow.{NoticeRow}
use Rattle.office_machine.specs.Machine.{Given, Means, time_of}
use Rattle.office_machine.specs.OfficeMeans.{office_readings}
use Rattle.office_machine.specs.Publications.{published_for}
use Rattle.office_machine.specs.Counted.{releases_in}
use Rattle.office_machine.specs.Releases.{MakesReleases}
use Rattle.ocds_release.specs.Events.{release_of_event}
use Rattle.ocds_release.specs.declared.event.Event.{Event}
use Rattle.office_publications.specs.Events.{event_of}

-- The notice's row, if the command publishes a release for a notice.
abbrev pub notice_published : Given → Option NoticeRow
notice_published x = option_and_then (λ notice. notice_at notice x.before) (published_for x.before x.command)

-- The text of the release of a command's event, with the notice's next number and the command's moment.
abbrev pub text_by : Publisher → Given → Event → List ℕ
text_by publisher x e = compact_text (release_of_event publisher (releases_in (notice_published x) + 1) (time_of x) e)

-- The text of a command's release; none if the command publishes nothing.
abbrev pub release_text : Publisher → Given → Option (List ℕ)
release_text publisher x = option_map (text_by publisher x) (event_of x.before x.command)

-- The parameters of the specification for an office that publishes.
abbrev pub publishing : Publisher → Means
publishing publisher = record { readings = office_readings; release = release_text publisher }

-- The law: a release is made of each command that publishes.
abbrev pub ReleasesAreMade : Type 0
ReleasesAreMade = (publisher : Publisher) → MakesReleases (publishing publisher)
