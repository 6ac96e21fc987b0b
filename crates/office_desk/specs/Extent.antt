-- The extent of a notice's releases, and whether they can be shown.
use Rattle.std.specs.Prelude.{◌≡◌, ℕ, ◌<◌, List, IfSome, All, length}
use Rattle.ocds_merge.specs.Stored.{IsWrittenRelease}
use Rattle.ocds_release.specs.Opened.{moment_of_last}
use Rattle.office_base.specs.declared.records.ReleaseRow.{ReleaseRow}
use Rattle.office_publications.specs.Told.{IsInRange}
use Rattle.office_desk.specs.declared.queries.packages.texts.Extent.{Extent}

-- The row's text is a release of the process with this `ocid`, as the office writes it.
abbrev pub IsWritten : (ocid : List ℕ) → ReleaseRow → Type 0
IsWritten ocid r = IsWrittenRelease ocid r.text

-- The extent of these releases. If it has a last moment, there are releases, and the last one has this moment. Each release has a moment that can be
-- written.
pub record IsExtentOf (extent : Extent) (rows : List ReleaseRow) : Type 0 where
  pub last : IfSome extent.last (λ moment. (0 < length rows) × (moment_of_last rows ≡ moment))
  pub range : All IsInRange rows
