-- The release that a command publishes, and the merge that it joins, as the program makes them.
use Rattle.std.specs.Prelude.{◌≡◌, ◌+◌, Some}
use Rattle.serde_json.specs.View.{view}
use Rattle.serde_json.specs.Written.{compact_text}
use Rattle.ocds_merge.specs.Stored.{IsStorable}
use Rattle.office_values.specs.declared.settings.Publisher.{Publisher}
use Rattle.office_base.specs.Tables.{Tables, notice_at}
use Rattle.office_base.specs.declared.records.ReleaseRow.{ReleaseRow}
use Rattle.office_machine.specs.Counted.{releases_in}
use Rattle.office_machine.specs.Machine.{Given, publication}
use Rattle.office_machine.specs.Publications.{published_for}
use Rattle.office_publications.specs.Keeping.{ReadsBack, merged_row}
use Rattle.office_publications.specs.Publishing.{publishing}
use Rattle.office_publications.specs.declared.publication.Publication.{Publication}
use Rattle.office_plans.specs.declared.published.Released.{Released}

-- The row that stores a release.
abbrev pub as_row : Released → ReleaseRow
as_row r = record { notice = r.notice; seq = r.seq; moment = r.moment; text = compact_text (view r.release) }

-- The release is the one that the command publishes. It has the next number of its notice, and the store can keep it.
pub record IsReleased (publisher : Publisher) (x : Given) (r : Released) : Type 0 where
  pub is : publication (publishing publisher) x ≡ Some (as_row r)
  pub for_notice : published_for x.before x.command ≡ Some r.notice
  pub next : r.seq ≡ releases_in (notice_at r.notice x.before) + 1
  pub storable : IsStorable (view r.release)

-- The publication has the release's row and the merge with this release, and both can be read again.
pub record IsKept (s : Tables) (r : Released) (p : Publication) : Type 0 where
  pub release : p.release ≡ as_row r
  pub merge : p.merge ≡ merged_row s p.release
  pub reads : ReadsBack s p.release
