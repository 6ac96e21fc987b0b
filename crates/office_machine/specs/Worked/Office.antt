-- The office of the worked examples: its lines, notices, lots, tenderers and moments, and short names for requests and replies.
use Rattle.std.specs.Prelude.{◌%◌, ◌&&◌, ◌*◌, ◌++◌, ◌+◌, ◌-◌, ◌/◌, ◌∷◌, ◌≤◌, Bool, List, None, Option, Some, [], codes, cond, false, map, nat_eq, nat_le, option_map, true, ℕ}
use Prim.Native.Nat.{suc-le-suc, zero-le}
use Rattle.office_commands.specs.declared.budget.BudgetKind.{BudgetKind}
use Rattle.office_commands.specs.declared.budget.BudgetKind.TheVariants.{Add}
use Rattle.office_commands.specs.declared.budget.BudgetRow.{BudgetRow}
use Rattle.office_commands.specs.declared.command.Caller.{Caller}
use Rattle.office_commands.specs.declared.command.Caller.TheVariants.{Clerk, Tenderer}
use Rattle.office_commands.specs.declared.commands.Command.{Command}
use Rattle.office_commands.specs.declared.commands.Command.TheVariants.{Award, Cancel, Examine, Fail, Import, Open, Present, Publish, Register, Sign}
use Rattle.office_commands.specs.declared.item.Item.{Item}
use Rattle.office_commands.specs.declared.lot.NewLot.{NewLot}
use Rattle.office_commands.specs.declared.notice.Criteria.{Criteria}
use Rattle.office_commands.specs.declared.notice.Criteria.TheVariants.{Price}
use Rattle.office_commands.specs.declared.notice.NewNotice.{NewNotice}
use Rattle.office_commands.specs.declared.notice.LateWithdrawal.TheVariants.{Refused, Forfeits}
use Rattle.office_commands.specs.declared.queries.Query.{Query}
use Rattle.office_commands.specs.declared.tender.NamedSecurity.{NamedSecurity}
use Rattle.office_values.specs.declared.refusal.Refusal.{Refusal}
use Rattle.office_base.specs.Joined.{pots_of}
use Rattle.office_base.specs.Tables.{Tables, line_at, no_tables}
use Rattle.office_base.specs.declared.ledger.Pots.{Pots}
use Rattle.office_base.specs.declared.reading.Reading.{Reading}
use Rattle.office_base.specs.declared.reading.Reading.TheVariants.{Nonconforming, Priced, Unreadable}
use Rattle.office_base.specs.declared.records.EnvelopeRow.{EnvelopeRow}
use Rattle.office_base.specs.declared.records.EnvelopeState.{EnvelopeState}
use Rattle.office_base.specs.declared.records.LineRow.{LineRow}
use Rattle.office_base.specs.declared.records.LotRow.{LotRow}
use Rattle.office_base.specs.declared.records.LotState.{LotState}
use Rattle.office_base.specs.declared.records.LotState.TheVariants as lot_in
use Rattle.office_base.specs.declared.records.NoticeRow.{NoticeRow}
use Rattle.office_base.specs.declared.records.NoticeState.TheVariants as notice_in
use Rattle.office_base.specs.declared.records.SecurityRow.{SecurityRow}
use Rattle.office_base.specs.declared.records.SecurityState.{SecurityState}
use Rattle.tender_papers.specs.WorkedPapers.{worked_notice}
use Rattle.office_machine.specs.Machine.{Given, Means}
use Rattle.office_machine.specs.QueryOrder.{refusal_in}
use Rattle.office_machine.specs.Replies.{Reply}
use Rattle.office_machine.specs.Requests.{Asks, Looks, Request, all_accepted, last_office, office_after, reply_to}
use Rattle.office_machine.specs.Sights.{Packages}

-- How tenders are read in these examples.

-- A price, corrected if another one is stated.
abbrev pub priced : Option ℕ → ℕ → Reading
priced None price = Priced price price 0
priced (Some stated) price = Priced stated price 1

-- The character is a decimal digit.
abbrev pub is_digit : ℕ → Bool
is_digit c = nat_le 48 c && nat_le c 57

-- A price in decimal digits. In `550/500` the stated price is 550, and the corrected one 500.
abbrev pub price_from : Option ℕ → ℕ → List ℕ → Reading
price_from stated n [] = priced stated n
price_from stated n (c ∷ rest) =
    cond (is_digit c) (price_from stated (10 * n + (c - 48)) rest) (cond (nat_eq c 47) (price_from (Some n) 0 rest) Unreadable)

-- A tender that begins with a dash is nonconforming.
abbrev pub reading_of : List ℕ → Reading
reading_of [] = Unreadable
reading_of (c ∷ rest) = cond (nat_eq c 45) Nonconforming (price_from None 0 (c ∷ rest))

-- In these examples the digest of bytes is the bytes themselves, and releases and packages have no text.
abbrev pub means : Means
means = record { readings = record { read = λ bytes items. reading_of bytes; digest = λ bytes. bytes }; release = λ x. Some [] }

-- Packages have no text.
abbrev pub packages : Packages
packages query s = []

-- The moments.

-- 2026-01-05T09:00:00Z, when the budget file is imported and tenderers are registered.
abbrev pub january : ℕ
january = 1767603600

-- 2026-02-01T09:00:00Z, when the notice is published.
abbrev pub published : ℕ
published = 1769936400

-- 2026-02-02T10:00:00Z, when tenders come in.
abbrev pub february : ℕ
february = 1770026400

-- 2026-03-01T12:00:00Z, the deadline.
abbrev pub deadline : ℕ
deadline = 1772366400

-- 2026-03-02T12:00:00Z, a later deadline.
abbrev pub next_day : ℕ
next_day = 1772452800

-- 2026-03-02T10:00:00Z, when tenders are examined and the lot is awarded.
abbrev pub decided : ℕ
decided = 1772445600

-- 2026-03-12T10:00:00Z, ten days later, the end of the standstill.
abbrev pub standstill_end : ℕ
standstill_end = 1773309600

-- 2026-03-22T10:00:00Z, the end of a second standstill.
abbrev pub second_end : ℕ
second_end = 1774173600

-- 2026-05-30T12:00:00Z, ninety days after the deadline, when tenders expire.
abbrev pub expiry : ℕ
expiry = 1780142400

-- The names.

-- The budget line of the roads.
abbrev pub roads : List ℕ
roads = codes "1000"

-- The identifiers of two notices and of two lots.
abbrev pub n1 : List ℕ
n1 = codes "N1"

abbrev pub n2 : List ℕ
n2 = codes "N2"

abbrev pub l1 : List ℕ
l1 = codes "L1"

abbrev pub l2 : List ℕ
l2 = codes "L2"

-- The identifiers of three tenderers.
abbrev pub t1 : List ℕ
t1 = codes "T1"

abbrev pub t2 : List ℕ
t2 = codes "T2"

abbrev pub t3 : List ℕ
t3 = codes "T3"

-- A letter, and a number below 1000 in three digits.
abbrev pub numbered_name : ℕ → ℕ → List ℕ
numbered_name letter n = letter ∷ (48 + n / 100) ∷ (48 + n % 100 / 10) ∷ (48 + n % 10) ∷ []

-- The requests.

-- A command by the clerk.
abbrev pub by_clerk : ℕ → Command → Request
by_clerk moment command = record { moment = moment; caller = Clerk; demand = Asks command; unavailable = false }

-- A command by this tenderer.
abbrev pub by : List ℕ → ℕ → Command → Request
by who moment command = record { moment = moment; caller = Tenderer who; demand = Asks command; unavailable = false }

-- A query by this caller.
abbrev pub looks : Caller → ℕ → Query → Request
looks caller moment query = record { moment = moment; caller = caller; demand = Looks query; unavailable = false }

-- Three loads of paving.
abbrev pub paving : List Item
paving = record { id = codes "I1"; title = codes "Paving"; quantity = 3 } ∷ []

-- A lot on the line of the roads with this estimate; its tenders need a security of 50.
abbrev pub lot : List ℕ → ℕ → NewLot
lot id estimate = record { id = id; title = codes "North"; line = roads; estimate = estimate; security = 50; items = paving }

-- A notice for road repair; its tenders are valid for 90 days, and its standstill lasts 10 days.
abbrev pub notice : ℕ → Criteria → List NewLot → NewNotice
notice due criteria lots = record { title = codes "Road repair"; deadline = due; validity = 90; standstill = 10; criteria = criteria; late_withdrawal = Refused; performance = 0; lots = lots }

-- This notice, if tenders can be withdrawn late and then forfeit their securities.
abbrev pub lenient : ℕ → Criteria → List NewLot → NewNotice
lenient due criteria lots = record (notice due criteria lots) { late_withdrawal = Forfeits }

-- This notice, if it asks for a performance security of 70.
abbrev pub demanding : ℕ → Criteria → List NewLot → NewNotice
demanding due criteria lots = record (notice due criteria lots) { performance = 70 }

-- A row of a budget file.
abbrev pub row : List ℕ → BudgetKind → (amount : ℕ) → 1 ≤ amount → BudgetRow
row line kind amount some = record { line = line; kind = kind; amount = amount; title = codes "Roads"; some = some }

-- A budget file that adds this amount to the roads.
abbrev pub funds : (amount : ℕ) → 1 ≤ amount → List Request
funds amount some = by_clerk january (Import (codes "B1") (row roads Add amount some ∷ [])) ∷ []

-- A tenderer with this identifier and name is registered.
abbrev pub enrol : List ℕ → List ℕ → Request
enrol who name = by_clerk january (Register who name (codes "High Street 1") [])

-- Three tenderers are registered.
abbrev pub tenderers : List Request
tenderers = enrol t1 (codes "Alpha") ∷ enrol t2 (codes "Beta") ∷ enrol t3 (codes "Gamma") ∷ []

-- The notice N1 is published with these lots.
abbrev pub publish : Criteria → List NewLot → Request
publish criteria lots = by_clerk published (Publish n1 (notice deadline criteria lots))

-- Money, the tenderers, and a notice with one lot of this estimate.
abbrev pub setup_with : (amount : ℕ) → 1 ≤ amount → Criteria → ℕ → List Request
setup_with amount some criteria estimate = funds amount some ++ tenderers ++ publish criteria (lot l1 estimate ∷ []) ∷ []

-- The roads have 1000.
abbrev pub money : List Request
money = funds 1000 (suc-le-suc zero-le)

-- The roads have 1000, tenderers are registered, and a lot of 600 goes to the lowest price.
abbrev pub setup : List Request
setup = setup_with 1000 (suc-le-suc zero-le) Price 600

-- A security with this reference and amount.
abbrev pub secured : List ℕ → ℕ → Option NamedSecurity
secured reference amount = Some (record { reference = reference; amount = amount })

-- The security that the lot asks for.
abbrev pub security : Option NamedSecurity
security = secured (codes "G1") 50

-- A tender for the lot, with its security.
abbrev pub presents : List ℕ → ℕ → List ℕ → Request
presents who moment bytes = by who moment (Present n1 l1 security bytes)

-- The tenders are opened.
abbrev pub opens : ℕ → Request
opens moment = by_clerk moment (Open n1)

-- A tender is examined as responsive.
abbrev pub examines : ℕ → Request
examines receipt = by_clerk decided (Examine receipt true None)

-- The lot is awarded.
abbrev pub awards : ℕ → Request
awards moment = by_clerk moment (Award n1 l1)

-- The contract of an award is signed.
abbrev pub signs : ℕ → ℕ → Request
signs moment award = by_clerk moment (Sign award None)

-- The winner of an award doesn't sign.
abbrev pub fails : ℕ → ℕ → Request
fails moment award = by_clerk moment (Fail award)

-- The notice is cancelled.
abbrev pub cancels : ℕ → Request
cancels moment = by_clerk moment (Cancel n1 (codes "Plans"))

-- Two tenderers compete, at 500 and at 550.
abbrev pub tendered : List Request
tendered = setup ++ presents t1 february (codes "500") ∷ presents t2 february (codes "550") ∷ []

-- The first tenderer also submits a tender for a lot of 300 in a second notice.
abbrev pub two_notices : List Request
two_notices =
    tendered
    ++ by_clerk february (Publish n2 (notice deadline Price (lot l1 300 ∷ [])))
    ∷ by t1 february (Present n2 l1 security (codes "290"))
    ∷ []

-- Both tenders are opened and examined.
abbrev pub examined : List Request
examined = tendered ++ opens deadline ∷ examines 1 ∷ examines 2 ∷ []

-- Both tenders are examined, and the lot is awarded.
abbrev pub awarded : List Request
awarded = examined ++ awards decided ∷ []

-- The rows.

-- The notice after its publication with one lot of 600.
abbrev pub road_repair : NoticeRow
road_repair = record worked_notice { published = published; validity = 90; state = notice_in.Receiving; opened = None }

-- The lot of this notice.
abbrev pub north : LotRow
north = record { notice = n1; lot = l1; title = codes "North"; line = roads; estimate = 600; security = 50; items = paving; state = lot_in.Undecided; reserved = 600 }

-- The replies, and the office after them.

-- The office to which these requests lead from the empty one.
abbrev pub office : List Request → Tables
office asked = last_office means no_tables asked

-- The replies to these requests in an office.
abbrev pub replies_in : Tables → List Request → List Reply
replies_in s [] = []
replies_in s (a ∷ rest) = reply_to means packages s a ∷ replies_in (office_after means s a) rest

-- The replies to these requests after earlier ones.
abbrev pub replies : List Request → List Request → List Reply
replies earlier asked = replies_in (office earlier) asked

-- The refusals of these requests after earlier ones, each None if the request isn't refused.
abbrev pub refused : List Request → List Request → List (Option Refusal)
refused earlier asked = map refusal_in (replies earlier asked)

-- The appropriation and the balances of the roads after these requests.
abbrev pub pots : List Request → Option Pots
pots asked = option_map (λ (line : LineRow). pots_of line (office asked)) (line_at roads (office asked))

-- An appropriation and four balances.
abbrev pub pots_are : ℕ → ℕ → ℕ → ℕ → ℕ → Option Pots
pots_are appropriation free reserved contracted paid =
    Some (record { appropriation = appropriation; free = free; reserved = reserved; contracted = contracted; paid = paid })

-- The states of all lots after these requests, in the order of their rows.
abbrev pub states_of_lots : List Request → List LotState
states_of_lots asked = map (λ (l : LotRow). l.state) (office asked).lots

-- The states of all tenders after these requests, in the order of their rows.
abbrev pub states_of_tenders : List Request → List EnvelopeState
states_of_tenders asked = map (λ (e : EnvelopeRow). e.state) (office asked).envelopes

-- The states of all securities after these requests, in the order of their rows.
abbrev pub states_of_securities : List Request → List SecurityState
states_of_securities asked = map (λ (s : SecurityRow). s.state) (office asked).securities

-- The accepted commands among these requests, the last one first.
abbrev pub accepted : List Request → List Given
accepted asked = all_accepted means no_tables [] asked
