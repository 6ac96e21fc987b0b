-- The release when the tenders of a notice are opened.
use Rattle.std.specs.Prelude.{List, [], ◌∷◌, codes, map, length}
use Rattle.serde_json.specs.Data.{Data, number, unsigned}
use Rattle.ocds_release.specs.Objects.{Entry, text, texts, array_of, object_of, tenderer_reference}
use Rattle.ocds_release.specs.Texts.{tenderer_id}
use Rattle.ocds_release.specs.Tenderers.{Tenderer}
use Rattle.ocds_release.specs.Releases.{tags}
use Rattle.ocds_release.specs.declared.event.Opened.{Opened}

-- a tenderer as a party, with the address (OCDS 1.1, Organization, Address)
abbrev pub opened_party : Tenderer → Data
opened_party p = object_of (
    (codes "id", text (tenderer_id p.id))
    ∷ (codes "name", text p.name)
    ∷ (codes "roles", texts (codes "tenderer" ∷ []))
    ∷ (codes "address", object_of ((codes "streetAddress", text p.address) ∷ []))
    ∷ [])

-- a tenderer by identifier and name
abbrev pub tenderer_reference_of : Tenderer → Data
tenderer_reference_of p = tenderer_reference p.id p.name

-- the tender with its tenderers and their number (OCDS 1.1, Tender)
abbrev pub opened_tender : Opened → Data
opened_tender e = object_of (
    (codes "id", text e.notice)
    ∷ (codes "numberOfTenderers", number (unsigned (length e.tenderers)))
    ∷ (codes "tenderers", array_of (map tenderer_reference_of e.tenderers))
    ∷ [])

-- tag `tenderUpdate`, the tenderers as parties, and the tender
abbrev pub open_body : Opened → List Entry
open_body e =
    tags (codes "tenderUpdate" ∷ [])
    ∷ (codes "parties", array_of (map opened_party e.tenderers))
    ∷ (codes "tender", opened_tender e)
    ∷ []
