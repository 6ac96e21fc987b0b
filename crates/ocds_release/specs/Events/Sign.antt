-- The release when a contract is signed.
use Rattle.std.specs.Prelude.{ℕ, List, [], ◌∷◌, codes}
use Rattle.serde_json.specs.Data.{Data}
use Rattle.office_values.specs.Moments.{moment_text}
use Rattle.office_values.specs.declared.settings.Publisher.{Publisher}
use Rattle.ocds_release.specs.Objects.{Entry, text, decimal_id, array_of, object_of, money}
use Rattle.ocds_release.specs.Tenders.{tender_with_lot}
use Rattle.ocds_release.specs.Releases.{tags}
use Rattle.ocds_release.specs.declared.event.Signed.{Signed}

-- the contract at the price of its award, with the number of the award (OCDS 1.1, Contract)
abbrev pub signed_contract : List ℕ → ℕ → Signed → Data
signed_contract currency t e = object_of (
    (codes "id", decimal_id e.contract)
    ∷ (codes "awardID", decimal_id e.contract)
    ∷ (codes "status", text (codes "active"))
    ∷ (codes "dateSigned", text (moment_text t))
    ∷ (codes "value", money e.price currency)
    ∷ [])

-- tag `contract`, the contract, and the tender with its status and the completed lot
abbrev pub sign_body : Publisher → ℕ → Signed → List Entry
sign_body publisher t e =
    tags (codes "contract" ∷ [])
    ∷ (codes "contracts", array_of (signed_contract publisher.currency t e ∷ []))
    ∷ (codes "tender", tender_with_lot e.notice e.status e.lot (codes "complete"))
    ∷ []
