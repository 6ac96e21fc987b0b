-- The release when a lot is awarded.
use Rattle.std.specs.Prelude.{ℕ, List, [], ◌∷◌, codes}
use Rattle.serde_json.specs.Data.{Data}
use Rattle.office_values.specs.Moments.{moment_text}
use Rattle.office_values.specs.declared.settings.Publisher.{Publisher}
use Rattle.ocds_release.specs.Objects.{Entry, text, texts, decimal_id, array_of, object_of, money, tenderer_reference}
use Rattle.ocds_release.specs.Texts.{tenderer_id}
use Rattle.ocds_release.specs.Releases.{tags}
use Rattle.ocds_release.specs.declared.event.Awarded.{Awarded}

-- the winner as a party, now also a supplier (OCDS 1.1, Organization, codelist partyRole)
abbrev pub winner_party : Awarded → Data
winner_party e = object_of (
    (codes "id", text (tenderer_id e.winner.id))
    ∷ (codes "roles", texts (codes "tenderer" ∷ codes "supplier" ∷ []))
    ∷ [])

-- the award of the lot to the winner, at the winner's price (OCDS 1.1, Award)
abbrev pub award_data : List ℕ → ℕ → Awarded → Data
award_data currency t e = object_of (
    (codes "id", decimal_id e.award)
    ∷ (codes "status", text (codes "active"))
    ∷ (codes "date", text (moment_text t))
    ∷ (codes "value", money e.price currency)
    ∷ (codes "relatedLots", texts (e.lot ∷ []))
    ∷ (codes "suppliers", array_of (tenderer_reference e.winner.id e.winner.name ∷ []))
    ∷ [])

-- tag `award`, the winner as a party, and the award
abbrev pub award_body : Publisher → ℕ → Awarded → List Entry
award_body publisher t e =
    tags (codes "award" ∷ [])
    ∷ (codes "parties", array_of (winner_party e ∷ []))
    ∷ (codes "awards", array_of (award_data publisher.currency t e ∷ []))
    ∷ []
