-- The releases with lists of their events: publications, openings and cancellations. Each can be stored as text.
use Rattle.ocds_release.proofs.Names.{ℕ, List, [], ◌∷◌, codes, map, length, refl, arith, number, unsigned, Publisher, Item, NewLot, sum_over, lots_in_order, amendment, ended_award, tender_members, status_code, Tenderer, Entry, text, array_of, four_digit_id, money, release, tags, Published, Opened, NoticeCancelled}
use Rattle.ocds_release.specs.Events.Publish as publish
use Rattle.ocds_release.specs.Events.Open as opening
use Rattle.ocds_release.specs.Events.Cancel as cancel
use Rattle.ocds_release.proofs.Flat.{IsFlat, AreFlat, AreMembersFlat, text_flat, texts_flat, number_flat, money_flat, list_flat, each_flat, both_flat, members_flat, entries_flat, filled_flat, object_flat, inside_flat}
use Rattle.ocds_release.proofs.Keepable.{IsKeepable, release_keepable}

-- ---- a publication

lot_flat : (currency : List ℕ) (lot : NewLot) → IsFlat 4 (publish.published_lot currency lot)
lot_flat currency lot = record { no_float = refl; shallow = omega arith }

item_flat : (lot : List ℕ) (item : Item) → IsFlat 4 (publish.published_item lot item)
item_flat lot item = record { no_float = refl; shallow = omega arith }

items_flat : (lots : List NewLot) → AreFlat 4 (publish.items_of_lots lots)
items_flat [] = tt
items_flat (lot ∷ lots) =
    both_flat 4 (publish.items_of_lot lot) (publish.items_of_lots lots)
    (each_flat 4 (publish.published_item lot.id) (item_flat lot.id) lot.items) (items_flat lots)

terms_flat : (publisher : Publisher) (e : Published) → AreMembersFlat 5 (publish.tender_terms publisher e)
terms_flat publisher e = record { no_float = refl; shallow = omega arith }

tender_flat : (publisher : Publisher) (t : ℕ) (e : Published) → IsFlat 6 (publish.published_tender publisher t e)
tender_flat publisher t e =
    let lots = lots_in_order e.lots in
    let entries : List Entry =
    (codes "value", money (sum_over publish.estimate_of e.lots) publisher.currency)
    ∷ (codes "items", array_of (publish.items_of_lots lots))
    ∷ (codes "lots", array_of (map (publish.published_lot publisher.currency) lots))
    ∷ (codes "tenderPeriod", publish.period t e.deadline)
    ∷ [] in
    inside_flat 5 _ (entries_flat 5 entries (publish.tender_terms publisher e) (
      money_flat 4 _ _,
      (
        list_flat 4 _ (items_flat lots),
        (
          list_flat 4 _ (each_flat 4 (publish.published_lot publisher.currency) (lot_flat publisher.currency) lots),
          (record { no_float = refl; shallow = omega arith }, tt),
        ),
      ),
    )
    (terms_flat publisher e))

pub publish_keepable : (publisher : Publisher) (seq t : ℕ) (e : Published) → IsKeepable t (release publisher seq t e.notice (publish.publish_body publisher t e))
publish_keepable publisher seq t e =
    let entries : List Entry =
    tags (codes "planning" ∷ codes "tender" ∷ [])
    ∷ (codes "parties", array_of (publish.buyer_party publisher ∷ []))
    ∷ (codes "planning", publish.planning publisher.currency (sum_over publish.estimate_of e.lots))
    ∷ (codes "tender", publish.published_tender publisher t e)
    ∷ [] in
    release_keepable publisher seq t e.notice entries (
      texts_flat 5 (codes "planning" ∷ codes "tender" ∷ []),
      (
        record { no_float = refl; shallow = omega arith },
        (
          record { no_float = refl; shallow = omega arith },
          (tender_flat publisher t e, tt),
        ),
      ),
    )
    refl

-- ---- an opening

party_flat : (p : Tenderer) → IsFlat 5 (opening.opened_party p)
party_flat p = record { no_float = refl; shallow = omega arith }

reference_of_flat : (p : Tenderer) → IsFlat 4 (opening.tenderer_reference_of p)
reference_of_flat p = record { no_float = refl; shallow = omega arith }

opened_flat : (e : Opened) → IsFlat 6 (opening.opened_tender e)
opened_flat e =
    let entries : List Entry =
    (codes "id", text e.notice)
    ∷ (codes "numberOfTenderers", number (unsigned (length e.tenderers)))
    ∷ (codes "tenderers", array_of (map opening.tenderer_reference_of e.tenderers))
    ∷ [] in
    object_flat 5 entries
    (text_flat 5 _, (number_flat 5 _, (list_flat 4 _ (each_flat 4 opening.tenderer_reference_of reference_of_flat e.tenderers), tt)))

pub open_keepable : (publisher : Publisher) (seq t : ℕ) (e : Opened) → IsKeepable t (release publisher seq t e.notice (opening.open_body e))
open_keepable publisher seq t e =
    let entries : List Entry =
    tags (codes "tenderUpdate" ∷ [])
    ∷ (codes "parties", array_of (map opening.opened_party e.tenderers))
    ∷ (codes "tender", opening.opened_tender e)
    ∷ [] in
    release_keepable publisher seq t e.notice entries
    (texts_flat 5 (codes "tenderUpdate" ∷ []), (list_flat 5 _ (each_flat 5 opening.opened_party party_flat e.tenderers), (opened_flat e, tt)))
    refl

-- ---- a cancellation

cancelled_lot_flat : (lot : List ℕ) → IsFlat 4 (cancel.cancelled_lot_data lot)
cancelled_lot_flat lot = record { no_float = refl; shallow = omega arith }

ended_award_flat : (award : ℕ) → IsFlat 5 (ended_award award)
ended_award_flat award = record { no_float = refl; shallow = omega arith }

tag_flat : (awards : List ℕ) → IsFlat 6 (cancel.cancel_tag awards)
tag_flat [] = record { no_float = refl; shallow = omega arith }
tag_flat (award ∷ awards) = record { no_float = refl; shallow = omega arith }

cancelled_flat : (seq t : ℕ) (e : NoticeCancelled) → IsFlat 6 (cancel.cancelled_tender seq t e)
cancelled_flat seq t e =
    let lots = array_of (map cancel.cancelled_lot_data e.lots) in
    let entries : List Entry =
    (codes "id", text e.notice)
    ∷ (codes "status", text (status_code e.status))
    ∷ (codes "lots", lots)
    ∷ [] in
    let amendments = array_of (amendment (four_digit_id seq) t e.rationale (text (codes "Cancelled")) ∷ []) in
    inside_flat 5 _ (filled_flat 5 (codes "amendments") amendments (tender_members e.notice e.status lots)
    (record { no_float = refl; shallow = omega arith })
    (members_flat 5 entries
    (text_flat 5 _, (text_flat 5 _, (list_flat 4 _ (each_flat 4 cancel.cancelled_lot_data cancelled_lot_flat e.lots), tt)))))

pub cancel_keepable : (publisher : Publisher) (seq t : ℕ) (e : NoticeCancelled) → IsKeepable t (release publisher seq t e.notice (cancel.cancel_body seq t e))
cancel_keepable publisher seq t e =
    let entries : List Entry =
    (codes "tag", cancel.cancel_tag e.awards)
    ∷ (codes "tender", cancel.cancelled_tender seq t e)
    ∷ (codes "awards", array_of (map ended_award e.awards))
    ∷ [] in
    release_keepable publisher seq t e.notice entries
    (tag_flat e.awards, (cancelled_flat seq t e, (list_flat 5 _ (each_flat 5 ended_award ended_award_flat e.awards), tt)))
    refl
