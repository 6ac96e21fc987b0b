-- The release when the deadline of a notice is moved.
use Rattle.std.specs.Prelude.{ℕ, List, [], ◌∷◌, codes}
use Rattle.serde_json.specs.Data.{Data}
use Rattle.office_values.specs.Moments.{moment_text}
use Rattle.ocds_release.specs.Objects.{Entry, text, four_digit_id, array_of, object_of}
use Rattle.ocds_release.specs.Texts.{moved_text}
use Rattle.ocds_release.specs.Amendments.{amendment}
use Rattle.ocds_release.specs.Releases.{tags}
use Rattle.ocds_release.specs.declared.event.NoticeAmended.{NoticeAmended}

-- the tender with its new deadline, and the amendment, whose id is the release's number in four digits (OCDS 1.1, Tender)
abbrev pub amended_tender : ℕ → ℕ → NoticeAmended → Data
amended_tender seq t e = object_of (
    (codes "id", text e.notice)
    ∷ (codes "tenderPeriod", object_of ((codes "endDate", text (moment_text e.after)) ∷ []))
    ∷ (codes "amendments", array_of (amendment (four_digit_id seq) t e.rationale (text (moved_text e.before e.after)) ∷ []))
    ∷ [])

-- tag `tenderAmendment`, and the tender
abbrev pub amend_body : ℕ → ℕ → NoticeAmended → List Entry
amend_body seq t e =
    tags (codes "tenderAmendment" ∷ [])
    ∷ (codes "tender", amended_tender seq t e)
    ∷ []
