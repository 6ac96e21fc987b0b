-- The replies of the office to commands and queries, as values.
use Rattle.std.specs.Prelude.{ℕ, ◌+◌, Bool, true, List, Option, Some, None}
use Rattle.office_values.specs.declared.refusal.Thing.TheVariants as things
use Rattle.office_values.specs.declared.refusal.Refusal.{Refusal}
use Rattle.office_values.specs.declared.refusal.Refusal.TheVariants.{NoSuch}
use Rattle.office_base.specs.declared.reading.Reading.{Reading}
use Rattle.office_base.specs.declared.ledger.Pots.{Pots}
use Rattle.office_base.specs.declared.ledger.LedgerRow.{LedgerRow}
use Rattle.office_base.specs.declared.records.EnvelopeState.{EnvelopeState}
use Rattle.office_base.specs.declared.records.EnvelopeState.TheVariants.{Withdrawn}
use Rattle.office_base.specs.declared.records.SecurityState.{SecurityState}
use Rattle.office_base.specs.declared.records.LotState.{LotState}
use Rattle.office_base.specs.declared.records.TendererRow.{TendererRow}
use Rattle.office_base.specs.declared.records.NoticeRow.{NoticeRow}
use Rattle.office_base.specs.declared.records.LotRow.{LotRow}
use Rattle.office_base.specs.declared.records.EnvelopeRow.{EnvelopeRow}
use Rattle.office_base.specs.declared.records.AwardRow.{AwardRow}
use Rattle.office_base.specs.declared.records.ContractRow.{ContractRow}
use Rattle.office_base.specs.declared.records.EntryRow.{EntryRow}
use Rattle.office_base.specs.declared.records.ClockRow.{ClockRow}
use Rattle.office_base.specs.Joined.{outstanding}
use Rattle.office_base.specs.Tables.{find_notice}
use Rattle.tender_core.specs.Rules.Modify.{replacing}
use Rattle.award_core.specs.Rules.Award.{price_of}
use Rattle.office_machine.specs.Counted.{releases_in}
use Rattle.office_machine.specs.Readings.{Readings}

-- A line of a register: a tender that came for a notice, without the name of its tenderer.
pub record Registered : Type 0 where
  pub receipt : ℕ
  pub lot : List ℕ
  pub moment : ℕ
  pub length : ℕ
  pub state : EnvelopeState

-- A line of the minutes: an opened tender with its tenderer, whose row is `party`.
pub record Minuted : Type 0 where
  pub receipt : ℕ
  pub lot : List ℕ
  pub tenderer : List ℕ
  pub party : Option TendererRow
  pub reading : Option Reading

-- A tender in the list that its own tenderer sees.
pub record OwnTender : Type 0 where
  pub digest : List ℕ
  pub length : ℕ
  pub lot : List ℕ
  pub moment : ℕ
  pub receipt : ℕ
  pub security : Option ℕ
  pub state : EnvelopeState

-- A security in the list of a notice. The tenderer is named only once tenders are no longer received.
pub record ListedSecurity : Type 0 where
  pub amount : ℕ
  pub lot : List ℕ
  pub reference : List ℕ
  pub security : ℕ
  pub state : SecurityState
  pub tenderer : Option (List ℕ)

-- A tenderer in the list of all tenderers, without the digest of the key.
pub record ListedTenderer : Type 0 where
  pub tenderer : List ℕ
  pub name : List ℕ
  pub address : List ℕ

-- The findings on an opened tender; its points are in thousandths. `failed` says that it can't win any more: it was passed over or withdrawn late.
pub record EvaluatedTender : Type 0 where
  pub receipt : ℕ
  pub tenderer : List ℕ
  pub reading : Option Reading
  pub responsive : Option Bool
  pub quality : Option ℕ
  pub points : Option ℕ
  pub admissible : Bool
  pub failed : Bool

-- A lot with its opened tenders and its awards. Both lists are empty if the caller isn't shown them.
pub record EvaluatedLot : Type 0 where
  pub lot : List ℕ
  pub state : LotState
  pub tenders : List EvaluatedTender
  pub awards : List AwardRow

-- The winner of a lot, as the reply to an award names it: the award's number, the price, and the receipt of the tender.
pub record Winning : Type 0 where
  pub award : ℕ
  pub price : ℕ
  pub tender : ℕ

-- A reply to a command, or to a query.
pub data Reply : Type 0 where
  Refused : (why : Refusal) → Reply
  Imported : (batch : List ℕ) → (rows : ℕ) → (moment : ℕ) → Reply
  Enrolled : (tenderer : List ℕ) → (moment : ℕ) → Reply
  OfNotice : (notice : List ℕ) → (release : ℕ) → (moment : ℕ) → Reply
  OpenedAll : (notice : List ℕ) → (count : ℕ) → (release : ℕ) → (moment : ℕ) → Reply
  Received : (digest : List ℕ) → (receipt : ℕ) → (security : Option ℕ) → (state : EnvelopeState) → (moment : ℕ) → Reply
  Withdrew : (receipt : ℕ) → (state : EnvelopeState) → (moment : ℕ) → Reply
  Examined : (receipt : ℕ) → (responsive : Bool) → (moment : ℕ) → Reply
  Awarded : (lot : List ℕ) → (best : Option Winning) → (release : ℕ) → (moment : ℕ) → Reply
  Failed : (award : ℕ) → (release : ℕ) → (moment : ℕ) → Reply
  Signed : (contract : ℕ) → (release : ℕ) → (moment : ℕ) → Reply
  OfContract : (contract : ℕ) → (left : ℕ) → (release : ℕ) → (moment : ℕ) → Reply
  LineSeen : (line : List ℕ) → (title : List ℕ) → (pots : Pots) → Reply
  LedgerSeen : (rows : List LedgerRow) → Reply
  Tender : (digest : List ℕ) → (length : ℕ) → (notice : List ℕ) → (lot : List ℕ) → (moment : ℕ) → (receipt : ℕ) → (security : Option ℕ) → (state : EnvelopeState) → Reply
  Security : (amount : ℕ) → (reference : List ℕ) → (security : ℕ) → (state : SecurityState) → (tenderer : List ℕ) → Reply
  PerformanceSeen : (amount : ℕ) → (contract : ℕ) → (reference : List ℕ) → (state : SecurityState) → (tenderer : List ℕ) → Reply
  Registry : (notice : List ℕ) → (rows : List Registered) → Reply
  Minutes : (notice : NoticeRow) → (lots : List LotRow) → (rows : List Minuted) → Reply
  Package : (text : List ℕ) → Reply
  NoticesSeen : (next : Option (List ℕ)) → (rows : List NoticeRow) → Reply
  TermsSeen : (notice : NoticeRow) → (late : Bool) → (lots : List LotRow) → Reply
  OwnTendersSeen : (rows : List OwnTender) → Reply
  EvaluationSeen : (notice : List ℕ) → (lots : List EvaluatedLot) → Reply
  SecuritiesSeen : (rows : List ListedSecurity) → Reply
  TenderersSeen : (next : Option (List ℕ)) → (rows : List ListedTenderer) → Reply
  ContractSeen : (contract : ContractRow) → (left : ℕ) → (paid : ℕ) → (entries : List EntryRow) → Reply

-- The replies to accepted commands.

-- The number of the next release of a notice.
abbrev pub release_of : List NoticeRow → List ℕ → ℕ
release_of notices notice = releases_in (find_notice notices notice) + 1

-- The number of the next release of an award's notice; 0 if the award doesn't exist.
abbrev pub release_of_award : Option AwardRow → List NoticeRow → ℕ
release_of_award None notices = 0
release_of_award (Some a) notices = release_of notices a.notice

-- The number of the next release of a contract's notice; 0 if the contract doesn't exist.
abbrev pub release_of_contract : Option ContractRow → List NoticeRow → ℕ
release_of_contract None notices = 0
release_of_contract (Some c) notices = release_of notices c.notice

-- The outstanding amount of a contract; 0 if the contract doesn't exist.
abbrev pub left_of : Option ContractRow → List EntryRow → ℕ
left_of None entries = 0
left_of (Some c) entries = outstanding entries c

-- The reply to a tender that came in.
abbrev pub received_reply : EnvelopeRow → Reply
received_reply e = Received e.digest e.receipt e.security e.state e.moment

-- The reply to the replacement of a tender: the receipt of the new one.
abbrev pub modify_reply : Readings → ClockRow → ℕ → List ℕ → Option EnvelopeRow → Reply
modify_reply readings clock t bytes None = Refused (NoSuch things.Tender)
modify_reply readings clock t bytes (Some e) = received_reply (replacing readings.digest clock t e bytes)

-- The state of a tender after its withdrawal. A late withdrawal leaves the state as it was.
abbrev pub state_after : Bool → Option EnvelopeRow → EnvelopeState
state_after true (Some e) = e.state
state_after late envelope = Withdrawn

-- The winning tender, as the reply to an award names it.
abbrev pub winning : ClockRow → EnvelopeRow → Winning
winning clock e = record { award = clock.awards + 1; price = price_of e; tender = e.receipt }
