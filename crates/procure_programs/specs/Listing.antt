-- A page of the list of notices, as it is written.
use Rattle.std.specs.Prelude.{◌≡◌, ℕ, ◌+◌, List, take, Option}
use Rattle.std.specs.Io.KnownBytes.{Appends}
use Rattle.office_base.specs.Limits.{page_limit}
use Rattle.office_base.specs.Pages.{next_after, notices_after}
use Rattle.office_base.specs.Tables.{Tables, notice_key}
use Rattle.office_base.specs.declared.records.NoticeRow.{NoticeRow}
use Rattle.tender_papers.specs.Listing.{listing_text}

-- The rows that are looked up for a page after a notice: one more than the page has.
abbrev pub page_rows : Option (List ℕ) → Tables → List NoticeRow
page_rows after s = notices_after after (page_limit + 1) s

-- The lines of the page were written. The result is the last notice of the page if more follow.
abbrev pub WritesPage : Option (List ℕ) → Tables → Option (List ℕ) → Option (List ℕ) → Option (List ℕ) → Type 0
WritesPage after s old new next =
    Appends old new (listing_text (take page_limit (page_rows after s))) × (next ≡ next_after notice_key page_limit (page_rows after s))
