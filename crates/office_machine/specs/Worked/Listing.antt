-- Worked examples of lists: pages of notices and tenderers, the terms of a notice, its tenders as their tenderer sees them, its securities, and a contract.
use Rattle.std.specs.Prelude.{◌++◌, ◌+◌, ◌∷◌, ◌≡◌, List, None, Option, Some, [], codes, false, suc, true, zero, ℕ}
use Rattle.office_commands.specs.declared.command.Caller.{Caller}
use Rattle.office_commands.specs.declared.command.Caller.TheVariants.{Clerk, Public, Tenderer}
use Rattle.office_commands.specs.declared.commands.Command.TheVariants.{Modify, Publish, Withdraw}
use Rattle.office_commands.specs.declared.contract.How.{How}
use Rattle.office_commands.specs.declared.contract.How.TheVariants.{ForDefault}
use Rattle.office_commands.specs.declared.notice.Criteria.TheVariants.{Points}
use Rattle.office_commands.specs.declared.notice.LateWithdrawal.TheVariants.{Forfeits}
use Rattle.office_commands.specs.declared.queries.Query.{Query}
use Rattle.office_commands.specs.declared.queries.Query.TheVariants as queries
use Rattle.office_values.specs.declared.refusal.Refusal.TheVariants.{Forbidden, NoSuch, NotYourTender}
use Rattle.office_values.specs.declared.refusal.Thing.TheVariants as things
use Rattle.office_base.specs.Tables.{Tables, no_tables}
use Rattle.office_base.specs.declared.records.EntryKind.TheVariants as entries
use Rattle.office_base.specs.declared.records.EntryRow.{EntryRow}
use Rattle.office_base.specs.declared.records.EnvelopeState.{EnvelopeState}
use Rattle.office_base.specs.declared.records.EnvelopeState.TheVariants as envelope
use Rattle.office_base.specs.declared.records.NoticeRow.{NoticeRow}
use Rattle.office_base.specs.declared.records.NoticeState.TheVariants as notice_in
use Rattle.office_base.specs.declared.records.SecurityState.TheVariants as security_in
use Rattle.office_machine.specs.Replies.{ContractSeen, ListedSecurity, ListedTenderer, NoticesSeen, OwnTender, OwnTendersSeen, Refused, Reply, SecuritiesSeen, TenderersSeen, TermsSeen}
use Rattle.office_machine.specs.Requests.{Request}
use Rattle.office_machine.specs.Sights.{shown}
use Rattle.office_machine.specs.Worked.Amending.{amend}
use Rattle.office_machine.specs.Worked.Contracts.{ends, pays, raises, signed}
use Rattle.office_machine.specs.Worked.Office.{by, by_clerk, deadline, enrol, february, l1, looks, lot, money, n1, n2, next_day, north, notice, numbered_name, opens, packages, presents, published, road_repair, setup, standstill_end, t1, t2, tenderers, replies}

-- A query by this caller.
abbrev pub sees : Caller → Query → Request
sees caller query = looks caller february query

-- So many notices, named A000, A001 and so on.
abbrev pub notices_from : ℕ → ℕ → List NoticeRow
notices_from first zero = []
notices_from first (suc n) = record road_repair { notice = numbered_name 65 first } ∷ notices_from (first + 1) n

-- The office that has so many notices.
abbrev pub with_notices : ℕ → Tables
with_notices n = record no_tables { notices = notices_from 0 n }

-- A page of these notices, after a given notice.
abbrev pub page : ℕ → Option (List ℕ) → Reply
page n after = shown packages (with_notices n) Public (queries.Notices after)

-- A notice for which the price has 60 of a hundred points. Tenders can be withdrawn late, and contracts need a security of 70.
abbrev pub strict_setup : List Request
strict_setup =
    money
    ++ tenderers
    ++ by_clerk published (Publish n1 (record (notice deadline (Points 60) (lot l1 600 ∷ [])) { late_withdrawal = Forfeits; performance = 70 }))
    ∷ []

-- T1 submits a tender, replaces it and withdraws it.
abbrev pub withdrawn : List Request
withdrawn = setup ++ presents t1 february (codes "500") ∷ by t1 february (Modify 1 (codes "4500")) ∷ by t1 february (Withdraw 2) ∷ []

-- One of T1's tenders, as T1 sees it in the list.
abbrev pub own : List ℕ → ℕ → ℕ → EnvelopeState → OwnTender
own digest length receipt state = record { digest = digest; length = length; lot = l1; moment = february; receipt = receipt; security = Some 1; state = state }

-- The tenderer Alpha, as listed.
abbrev pub alpha : ListedTenderer
alpha = record { tenderer = t1; name = codes "Alpha"; address = codes "High Street 1" }

-- The security G1 of T1's tender, as it is listed.
abbrev pub held_security : Option (List ℕ) → ListedSecurity
held_security tenderer = record { amount = 50; lot = l1; reference = codes "G1"; security = 1; state = security_in.Held; tenderer = tenderer }

-- Contract 1 is signed with T1 for 700 and raised by 50, and 300 are paid under it.
abbrev pub running : List Request
running = signed ++ raises (codes "A1") 50 ∷ pays (codes "P1") 300 ∷ []

-- The entries of the contract: the raise and the payment.
abbrev pub both_entries : List EntryRow
both_entries =
    record { contract = 1; entry = codes "A1"; kind = entries.Raise; amount = 50; moment = standstill_end; rationale = Some (codes "Changed") }
    ∷ record { contract = 1; entry = codes "P1"; kind = entries.Payment; amount = 300; moment = standstill_end; rationale = None }
    ∷ []

-- The contract as it is shown: when and how it ended, the amount released at the end, and the outstanding amount.
abbrev pub contract_is : Option ℕ → Option How → ℕ → ℕ → Reply
contract_is ended how released left =
    ContractSeen
    (record {
      contract = 1;
      notice = n1;
      lot = l1;
      tenderer = t1;
      signed = 700;
      moment = standstill_end;
      ended = ended;
      how = how;
      released = released;
    })
    left
    300
    both_entries

pub record ListingWorked : Type 0 where
  -- An empty office has no notices.
  pub nothing_yet : replies [] (sees Public (queries.Notices None) ∷ []) ≡ NoticesSeen None [] ∷ []
  -- The published notice is on the first page and on the page after M, and not on the page after itself.
  pub one_notice : replies setup (sees Public (queries.Notices None) ∷ sees Public (queries.Notices (Some (codes "M"))) ∷ sees (Tenderer t1) (queries.Notices (Some n1)) ∷ [])
      ≡ NoticesSeen None (road_repair ∷ []) ∷ NoticesSeen None (road_repair ∷ []) ∷ NoticesSeen None [] ∷ []
  -- Of 101 notices, the first page has a hundred, and its `next` is the last of them.
  pub first_page : page 101 None ≡ NoticesSeen (Some (numbered_name 65 99)) (notices_from 0 100)
  -- The page after this notice has the last one.
  pub last_page : page 101 (Some (numbered_name 65 99)) ≡ NoticesSeen None (notices_from 100 1)
  -- A hundred notices are on one page.
  pub only_page : page 100 None ≡ NoticesSeen None (notices_from 0 100)
  -- The terms of the notice.
  pub terms : replies setup (sees Public (queries.Terms n1) ∷ sees Public (queries.Terms n2) ∷ []) ≡ TermsSeen road_repair false (north ∷ []) ∷ Refused (NoSuch things.Notice) ∷ []
  -- Points, late withdrawals and a performance security are terms.
  pub strict_terms : replies strict_setup (sees Public (queries.Terms n1) ∷ []) ≡ TermsSeen (record road_repair { weight = 60; performance = 70 }) true (north ∷ []) ∷ []
  -- An amended notice is listed with its deadline and with the numbers of its amendments and releases.
  pub amended : replies (setup ++ amend february next_day ∷ []) (sees Public (queries.Notices None) ∷ [])
      ≡ NoticesSeen None (record road_repair { deadline = next_day; amendments = 1; releases = 2 } ∷ []) ∷ []
  -- The terms of an opened notice have the moment of its opening.
  pub opened : replies (setup ++ opens deadline ∷ []) (sees Public (queries.Terms n1) ∷ [])
      ≡ TermsSeen (record road_repair { state = notice_in.Opened; opened = Some deadline; releases = 2 }) false (north ∷ []) ∷ []
  -- A tenderer sees all its own tenders for the notice, even those that it took back, and no other tenderer's.
  pub own_tenders : replies withdrawn (sees (Tenderer t1) (queries.OwnTenders n1) ∷ sees (Tenderer t2) (queries.OwnTenders n1) ∷ sees (Tenderer t1) (queries.OwnTenders n2) ∷ [])
      ≡ OwnTendersSeen (own (codes "500") 3 1 envelope.Withdrawn ∷ own (codes "4500") 4 2 envelope.Withdrawn ∷ [])
      ∷ OwnTendersSeen []
      ∷ Refused (NoSuch things.Notice)
      ∷ []
  -- Only tenderers have own tenders.
  pub tenderers_alone : replies withdrawn (sees Clerk (queries.OwnTenders n1) ∷ sees Public (queries.OwnTenders n1) ∷ []) ≡ Refused Forbidden ∷ Refused Forbidden ∷ []
  -- While tenders are received, the clerk's list of securities names no tenderer.
  pub securities_are_held : replies (setup ++ presents t1 february (codes "500") ∷ []) (sees Clerk (queries.Securities n1) ∷ []) ≡ SecuritiesSeen (held_security None ∷ []) ∷ []
  -- After the opening, the list of securities names the tenderers.
  pub then_named : replies (setup ++ presents t1 february (codes "500") ∷ opens deadline ∷ []) (sees Clerk (queries.Securities n1) ∷ [])
      ≡ SecuritiesSeen (held_security (Some t1) ∷ []) ∷ []
  -- Only the clerk sees the list of securities.
  pub securities_are_the_clerks : replies setup (sees (Tenderer t1) (queries.Securities n1) ∷ sees Public (queries.Securities n1) ∷ sees Clerk (queries.Securities n2) ∷ [])
      ≡ Refused Forbidden ∷ Refused Forbidden ∷ Refused (NoSuch things.Notice) ∷ []
  -- The clerk sees all registered tenderers, and nothing of their keys.
  pub registered : replies (enrol t1 (codes "Alpha") ∷ []) (sees Clerk (queries.Tenderers None) ∷ sees Clerk (queries.Tenderers (Some t1)) ∷ [])
      ≡ TenderersSeen None (alpha ∷ []) ∷ TenderersSeen None [] ∷ []
  -- In an empty office no tenderer is registered.
  pub nobody_yet : replies [] (sees Clerk (queries.Tenderers None) ∷ []) ≡ TenderersSeen None [] ∷ []
  -- Only the clerk sees the list of tenderers.
  pub tenderers_are_the_clerks : replies setup (sees (Tenderer t1) (queries.Tenderers None) ∷ sees Public (queries.Tenderers None) ∷ []) ≡ Refused Forbidden ∷ Refused Forbidden ∷ []
  -- The clerk and the contract's tenderer see the contract with its entries.
  pub contract_runs : replies running (sees Clerk (queries.Contract 1) ∷ sees (Tenderer t1) (queries.Contract 1) ∷ [])
      ≡ contract_is None None 0 450 ∷ contract_is None None 0 450 ∷ []
  -- The contract is shown after it has ended by default.
  pub contract_ended : replies (running ++ ends ForDefault ∷ []) (sees Clerk (queries.Contract 1) ∷ []) ≡ contract_is (Some standstill_end) (Some ForDefault) 450 0 ∷ []
  -- Nobody else sees the contract. A missing contract is reported first.
  pub contract_is_theirs : replies running (sees (Tenderer t2) (queries.Contract 1) ∷ sees Public (queries.Contract 1) ∷ sees (Tenderer t2) (queries.Contract 9) ∷ [])
      ≡ Refused NotYourTender ∷ Refused Forbidden ∷ Refused (NoSuch things.Contract) ∷ []
