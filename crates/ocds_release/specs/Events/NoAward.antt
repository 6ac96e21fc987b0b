-- The release when a lot has no admissible tender.
use Rattle.std.specs.Prelude.{List, [], ◌∷◌, codes}
use Rattle.ocds_release.specs.Objects.{Entry}
use Rattle.ocds_release.specs.Tenders.{tender_with_lot}
use Rattle.ocds_release.specs.Releases.{tags}
use Rattle.ocds_release.specs.declared.event.NotAwarded.{NotAwarded}

-- tag `tenderUpdate`, and the tender with its status and the unsuccessful lot
abbrev pub no_award_body : NotAwarded → List Entry
no_award_body e =
    tags (codes "tenderUpdate" ∷ [])
    ∷ (codes "tender", tender_with_lot e.notice e.status e.lot (codes "unsuccessful"))
    ∷ []
