-- The number of releases of a notice.
use Rattle.std.specs.Prelude.{ℕ, Option, Some, None}
use Rattle.office_base.specs.declared.records.NoticeRow.{NoticeRow}

-- The number of releases that a notice's row counts; 0 if the row doesn't exist.
abbrev pub releases_in : Option NoticeRow → ℕ
releases_in None = 0
releases_in (Some n) = n.releases
