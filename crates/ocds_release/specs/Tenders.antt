-- Tenders with lots that changed their status (OCDS 1.1, Tender, status; lots are an extension of it).
use Rattle.std.specs.Prelude.{ℕ, List, [], ◌∷◌, codes}
use Rattle.serde_json.specs.Data.{Data, Members, object, no_members}
use Rattle.ocds_release.specs.Objects.{text, array_of, object_of, with_entries}
use Rattle.ocds_release.specs.TenderStatuses.{status_code}
use Rattle.ocds_release.specs.declared.tender_status.TenderStatus.{TenderStatus}

-- a lot and its status
abbrev pub lot_in_status : List ℕ → List ℕ → Data
lot_in_status status lot = object_of ((codes "id", text lot) ∷ (codes "status", text status) ∷ [])

-- the members of the tender with its status and these lots, which changed theirs
abbrev pub tender_members : List ℕ → TenderStatus → Data → Members
tender_members notice status lots = with_entries (
    (codes "id", text notice)
    ∷ (codes "status", text (status_code status))
    ∷ (codes "lots", lots)
    ∷ []) no_members

-- the tender with its status and one lot, which changed its status
abbrev pub tender_with_lot : List ℕ → TenderStatus → List ℕ → List ℕ → Data
tender_with_lot notice status lot lot_status = object (tender_members notice status (array_of (lot_in_status lot_status lot ∷ [])))
