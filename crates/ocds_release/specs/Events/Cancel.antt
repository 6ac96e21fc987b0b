-- The release when the remaining lots of a notice are cancelled.
use Rattle.std.specs.Prelude.{ℕ, List, [], ◌∷◌, codes, map}
use Rattle.serde_json.specs.Data.{Data, object}
use Rattle.ocds_release.specs.Objects.{Entry, text, texts, four_digit_id, array_of, put_unless_empty}
use Rattle.ocds_release.specs.Amendments.{amendment}
use Rattle.ocds_release.specs.Awards.{ended_award}
use Rattle.ocds_release.specs.Tenders.{lot_in_status, tender_members}
use Rattle.ocds_release.specs.declared.event.NoticeCancelled.{NoticeCancelled}

-- a lot that was cancelled
abbrev pub cancelled_lot_data : List ℕ → Data
cancelled_lot_data lot = lot_in_status (codes "cancelled") lot

-- the tender with its status, the lots that were cancelled, and the cancellation as an amendment (OCDS 1.1, Tender)
abbrev pub cancelled_tender : ℕ → ℕ → NoticeCancelled → Data
cancelled_tender seq t e = object (put_unless_empty (codes "amendments")
    (array_of (amendment (four_digit_id seq) t e.rationale (text (codes "Cancelled")) ∷ []))
    (tender_members e.notice e.status (array_of (map cancelled_lot_data e.lots))))

-- tag `tenderCancellation`, and also `awardCancellation` if an award ends
abbrev pub cancel_tag : List ℕ → Data
cancel_tag [] = texts (codes "tenderCancellation" ∷ [])
cancel_tag (award ∷ awards) = texts (codes "tenderCancellation" ∷ codes "awardCancellation" ∷ [])

-- the tags, the tender, and the awards that end
abbrev pub cancel_body : ℕ → ℕ → NoticeCancelled → List Entry
cancel_body seq t e =
    (codes "tag", cancel_tag e.awards)
    ∷ (codes "tender", cancelled_tender seq t e)
    ∷ (codes "awards", array_of (map ended_award e.awards))
    ∷ []
