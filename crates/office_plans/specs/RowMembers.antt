-- The members with which a list shows a row in JSON, and the replies that have a list.
use Rattle.std.specs.Prelude.{ℕ, Bool, true, false, cond, List, [], ◌∷◌, map, Option, Some, None, codes, nat_eq, option_map}
use Rattle.office_commands.specs.declared.item.Item.{Item}
use Rattle.office_base.specs.declared.records.ContractRow.{ContractRow}
use Rattle.office_base.specs.declared.records.EntryRow.{EntryRow}
use Rattle.office_base.specs.declared.records.LotRow.{LotRow}
use Rattle.office_base.specs.declared.records.NoticeRow.{NoticeRow}
use Rattle.tender_papers.specs.Evaluation.{lot_word}
use Rattle.tender_papers.specs.Listing.{notice_word}
use Rattle.tender_papers.specs.Register.{state_word}
use Rattle.office_machine.specs.Replies.{OwnTender, ListedSecurity, ListedTenderer}
use Rattle.office_plans.specs.Json.{Member, text_entry, named_entry, number_entry, count_entry, date_entry, since_entry, moment_entry, digest_entry, with_objects}
use Rattle.office_plans.specs.Words.{security_word, entry_word, how_word}

-- A notice in the list of notices.
abbrev pub notice_entries : NoticeRow → List Member
notice_entries n =
    number_entry (codes "amendments") n.amendments ∷ date_entry (codes "deadline") n.deadline ∷ text_entry (codes "notice") n.notice
    ∷ since_entry (codes "opened") n.opened ∷ date_entry (codes "published") n.published ∷ number_entry (codes "releases") n.releases
    ∷ text_entry (codes "state") (notice_word n.state) ∷ text_entry (codes "title") n.title ∷ []

-- An item of a lot, and a lot with its items, as the notice was published.
abbrev pub item_entries : Item → List Member
item_entries i = text_entry (codes "id") i.id ∷ number_entry (codes "quantity") i.quantity ∷ text_entry (codes "title") i.title ∷ []

abbrev pub lot_entries : LotRow → List Member
lot_entries l =
    with_objects (number_entry (codes "estimate") l.estimate ∷ text_entry (codes "id") l.lot ∷ []) (codes "items") (map item_entries l.items)
    (text_entry (codes "line") l.line ∷ number_entry (codes "security") l.security ∷ text_entry (codes "state") (lot_word l.state) ∷ text_entry (codes "title") l.title ∷ [])

-- A tender in the list that its tenderer sees.
abbrev pub own_tender_entries : OwnTender → List Member
own_tender_entries t =
    digest_entry t.digest ∷ number_entry (codes "length") t.length ∷ text_entry (codes "lot") t.lot ∷ moment_entry t.moment
    ∷ number_entry (codes "receipt") t.receipt ∷ count_entry (codes "security") t.security ∷ text_entry (codes "state") (state_word t.state) ∷ []

-- A security in the list of a notice's securities.
abbrev pub listed_security_entries : ListedSecurity → List Member
listed_security_entries w =
    number_entry (codes "amount") w.amount ∷ text_entry (codes "lot") w.lot ∷ text_entry (codes "reference") w.reference
    ∷ number_entry (codes "security") w.security ∷ text_entry (codes "state") (security_word w.state) ∷ named_entry (codes "tenderer") w.tenderer ∷ []

-- A tenderer in the list of tenderers. It shows no key, and no digest of one.
abbrev pub listed_tenderer_entries : ListedTenderer → List Member
listed_tenderer_entries r = text_entry (codes "address") r.address ∷ text_entry (codes "name") r.name ∷ text_entry (codes "tenderer") r.tenderer ∷ []

-- An entry in the list of a contract's entries.
abbrev pub entry_entries : EntryRow → List Member
entry_entries e =
    number_entry (codes "amount") e.amount ∷ text_entry (codes "entry") e.entry ∷ text_entry (codes "kind") (entry_word e.kind) ∷ moment_entry e.moment
    ∷ named_entry (codes "rationale") e.rationale ∷ []

-- A page of a list: its rows, and as `next` the last of them if more rows follow.
abbrev pub page_entries : Option (List ℕ) → List ℕ → List (List Member) → List Member
page_entries next name rows = with_objects (named_entry (codes "next") next ∷ []) name rows []

-- The words for the criteria and for late withdrawals, and the weight of the price, which is null if the price alone decides.
abbrev pub criteria_word : ℕ → List ℕ
criteria_word weight = cond (nat_eq weight 0) (codes "price") (codes "points")

abbrev pub weight_told : ℕ → Option ℕ
weight_told weight = cond (nat_eq weight 0) None (Some weight)

abbrev pub late_word : Bool → List ℕ
late_word true = codes "forfeits"
late_word false = codes "refused"

-- The terms of a notice.
abbrev pub terms_entries : NoticeRow → Bool → List LotRow → List Member
terms_entries n late lots =
    with_objects
    (text_entry (codes "criteria") (criteria_word n.weight) ∷ date_entry (codes "deadline") n.deadline ∷ text_entry (codes "late_withdrawal") (late_word late) ∷ [])
    (codes "lots") (map lot_entries lots)
    (text_entry (codes "notice") n.notice ∷ since_entry (codes "opened") n.opened ∷ number_entry (codes "performance") n.performance
    ∷ count_entry (codes "price_weight") (weight_told n.weight) ∷ date_entry (codes "published") n.published ∷ number_entry (codes "standstill_days") n.standstill
    ∷ text_entry (codes "state") (notice_word n.state) ∷ text_entry (codes "title") n.title ∷ number_entry (codes "validity_days") n.validity ∷ [])

-- A contract with its entries.
abbrev pub contract_entries : ContractRow → ℕ → ℕ → List EntryRow → List Member
contract_entries c left paid entries =
    with_objects (number_entry (codes "contract") c.contract ∷ since_entry (codes "ended") c.ended ∷ []) (codes "entries") (map entry_entries entries)
    (named_entry (codes "how") (option_map how_word c.how) ∷ text_entry (codes "lot") c.lot ∷ moment_entry c.moment ∷ text_entry (codes "notice") c.notice
    ∷ number_entry (codes "outstanding") left ∷ number_entry (codes "paid") paid ∷ number_entry (codes "released") c.released
    ∷ number_entry (codes "signed") c.signed ∷ text_entry (codes "tenderer") c.tenderer ∷ [])
