-- The list of an office's notices, by which it invited tenders (UNCITRAL Model Law 2011, article 33), as a text: a line for each notice.
use Rattle.std.specs.Prelude.{ℕ, List, [], ◌∷◌, Option, Some, None, codes, decimal}
use Rattle.std.specs.List.{flat_map}
use Rattle.office_values.specs.Moments.{moment_text}
use Rattle.office_base.specs.declared.records.NoticeRow.{NoticeRow}
use Rattle.office_base.specs.declared.records.NoticeState.{NoticeState}
use Rattle.office_base.specs.declared.records.NoticeState.TheVariants as notices
use Rattle.tender_papers.specs.Lines.{line}

-- the word for the state of a notice
abbrev pub notice_word : NoticeState → List ℕ
notice_word notices.Receiving = codes "receiving"
notice_word notices.Opened = codes "opened"
notice_word notices.Cancelled = codes "cancelled"

-- a moment; a dash if there is none
abbrev pub moment_or_dash : Option ℕ → List ℕ
moment_or_dash None = codes "-"
moment_or_dash (Some moment) = moment_text moment

-- the line of a notice: its identifier and state, the moments of publication, deadline and opening, the numbers of amendments and releases, and its title
abbrev pub listing_line : NoticeRow → List ℕ
listing_line n =
    line (n.notice ∷ notice_word n.state ∷ moment_text n.published ∷ moment_text n.deadline ∷ moment_or_dash n.opened
    ∷ decimal n.amendments ∷ decimal n.releases ∷ n.title ∷ [])

-- a line for each notice
abbrev pub listing_text : List NoticeRow → List ℕ
listing_text rows = flat_map listing_line rows
