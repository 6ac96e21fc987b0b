-- The release when a notice is published.
use Rattle.std.specs.Prelude.{ℕ, List, [], ◌∷◌, ◌++◌, codes, map}
use Rattle.serde_json.specs.Data.{Data, Members, object, no_members, number, unsigned}
use Rattle.office_values.specs.Moments.{moment_text}
use Rattle.office_values.specs.declared.settings.Publisher.{Publisher}
use Rattle.office_commands.specs.declared.item.Item.{Item}
use Rattle.office_commands.specs.declared.lot.NewLot.{NewLot}
use Rattle.office_commands.specs.declared.notice.Criteria.{Criteria}
use Rattle.office_commands.specs.declared.notice.Criteria.TheVariants.{Price, Points}
use Rattle.office_base.specs.Sums.{sum_over}
use Rattle.ocds_release.specs.LotsInOrder.{lots_in_order}
use Rattle.ocds_release.specs.Objects.{Entry, text, texts, array_of, object_of, with_entries, money}
use Rattle.ocds_release.specs.Texts.{buyer_id, item_id_text}
use Rattle.ocds_release.specs.Releases.{tags, buyer_of}
use Rattle.ocds_release.specs.declared.event.Published.{Published}

-- the criteria by which tenders are compared (OCDS 1.1, codelist awardCriteria)
abbrev pub criteria_code : Criteria → List ℕ
criteria_code Price = codes "priceOnly"
criteria_code (Points weight) = codes "ratedCriteria"

-- a lot, with its own estimate (OCDS 1.1, lots extension, Lot)
abbrev pub published_lot : List ℕ → NewLot → Data
published_lot currency lot = object_of (
    (codes "id", text lot.id)
    ∷ (codes "status", text (codes "active"))
    ∷ (codes "title", text lot.title)
    ∷ (codes "value", money lot.estimate currency)
    ∷ [])

-- an item of a lot (OCDS 1.1, Item)
abbrev pub published_item : List ℕ → Item → Data
published_item lot item = object_of (
    (codes "description", text item.title)
    ∷ (codes "id", text (item_id_text lot item.id))
    ∷ (codes "quantity", number (unsigned item.quantity))
    ∷ (codes "relatedLot", text lot)
    ∷ [])

-- the items of these lots, lot by lot, in the order in which each lot has them
abbrev pub items_of_lot : NewLot → List Data
items_of_lot lot = map (published_item lot.id) lot.items

abbrev pub items_of_lots : List NewLot → List Data
items_of_lots [] = []
items_of_lots (lot ∷ lots) = items_of_lot lot ++ items_of_lots lots

abbrev pub estimate_of : NewLot → ℕ
estimate_of lot = lot.estimate

-- the buyer as a party (OCDS 1.1, Organization, codelist partyRole)
abbrev pub buyer_party : Publisher → Data
buyer_party publisher = object_of (
    (codes "id", text (buyer_id publisher.buyer.id))
    ∷ (codes "name", text publisher.buyer.name)
    ∷ (codes "roles", texts (codes "buyer" ∷ codes "procuringEntity" ∷ []))
    ∷ [])

-- the budget of the procurement (OCDS 1.1, Planning, Budget)
abbrev pub planning : List ℕ → ℕ → Data
planning currency amount = object_of ((codes "budget", object_of ((codes "amount", money amount currency) ∷ [])) ∷ [])

-- the period in which tenders are received (OCDS 1.1, Period)
abbrev pub period : ℕ → ℕ → Data
period from to = object_of ((codes "endDate", text (moment_text to)) ∷ (codes "startDate", text (moment_text from)) ∷ [])

-- the members of the tender, except for its value, items, lots and period (OCDS 1.1, Tender)
abbrev pub tender_terms : Publisher → Published → Members
tender_terms publisher e = with_entries (
    (codes "awardCriteria", text (criteria_code e.criteria))
    ∷ (codes "id", text e.notice)
    ∷ (codes "procurementMethod", text (codes "open"))
    ∷ (codes "procuringEntity", buyer_of publisher)
    ∷ (codes "status", text (codes "active"))
    ∷ (codes "submissionMethod", texts (codes "electronicSubmission" ∷ []))
    ∷ (codes "title", text e.title)
    ∷ []) no_members

-- the tender: its value is the sum of the estimates, its lots are in the order of their identifiers, and its period goes from now to the deadline
abbrev pub published_tender : Publisher → ℕ → Published → Data
published_tender publisher t e = object (with_entries (
    (codes "value", money (sum_over estimate_of e.lots) publisher.currency)
    ∷ (codes "items", array_of (items_of_lots (lots_in_order e.lots)))
    ∷ (codes "lots", array_of (map (published_lot publisher.currency) (lots_in_order e.lots)))
    ∷ (codes "tenderPeriod", period t e.deadline)
    ∷ []) (tender_terms publisher e))

-- tags `planning` and `tender`, the buyer as a party, the sum of the estimates as the budget, and the tender
abbrev pub publish_body : Publisher → ℕ → Published → List Entry
publish_body publisher t e =
    tags (codes "planning" ∷ codes "tender" ∷ [])
    ∷ (codes "parties", array_of (buyer_party publisher ∷ []))
    ∷ (codes "planning", planning publisher.currency (sum_over estimate_of e.lots))
    ∷ (codes "tender", published_tender publisher t e)
    ∷ []
