-- Sealed bytes stay secret: two runs that differ only in bytes that one tenderer seals for one lot get alike replies until the opening.
use Rattle.std.specs.Prelude.{◌≡◌, ℕ, Bool, true, false, not, ◌&&◌, List, [], ◌∷◌, map, Option, Some, None, is_some, ◌⊎◌}
use Rattle.office_values.specs.Ids.{same_id}
use Rattle.office_commands.specs.declared.command.Caller.{Caller}
use Rattle.office_commands.specs.Callers.{is_by}
use Rattle.office_base.specs.declared.records.EnvelopeState.TheVariants as envelope_states
use Rattle.office_base.specs.declared.records.EnvelopeState.{EnvelopeState}
use Rattle.office_commands.specs.declared.commands.Command.{Command}
use Rattle.office_commands.specs.declared.commands.Command.TheVariants.{Open}
use Rattle.office_base.specs.declared.records.EnvelopeRow.{EnvelopeRow}
use Rattle.office_base.specs.declared.records.SealRow.{SealRow}
use Rattle.office_base.specs.Tables.{Tables}
use Rattle.office_machine.specs.Machine.{Means, Given, Reaches, refusal_of}
use Rattle.office_machine.specs.Fates.{Reception, received_at, fate_of_tender}
use Rattle.office_machine.specs.Worlds.{ChosenTender, Pairs, SameBut, OpensAlike}
use Rattle.office_commands.specs.declared.queries.Query.{Query}
use Rattle.office_machine.specs.Replies.{Reply, Refused, Imported, Enrolled, OfNotice, OpenedAll, Received, Withdrew, Examined, Awarded, Failed, Signed, OfContract, LineSeen, LedgerSeen, Tender, Security, PerformanceSeen, Registry, Minutes, Package}
use Rattle.office_machine.specs.Replies.{NoticesSeen, TermsSeen, OwnTendersSeen, EvaluationSeen, SecuritiesSeen, TenderersSeen, ContractSeen, OwnTender}
use Rattle.office_machine.specs.Sights.{Packages}
use Rattle.office_machine.specs.Requests.{Demand, Asks, Looks, Request, given_by_request, reply_to, office_after, all_accepted, AreRequests}

-- The two envelopes differ at most in their digests.
abbrev pub ButDigest : EnvelopeRow → EnvelopeRow → Type 0
ButDigest e e' = e' ≡ record e { digest = e'.digest }

-- The text of a release depends on no digest of a tender, and on no seals but those that an opening opens.
abbrev pub ReleasesHideSeals : Means → Type 0
ReleasesHideSeals means = (x : Given) (envelopes : List EnvelopeRow) (seals : List SealRow) → Pairs ButDigest x.before.envelopes envelopes
    → OpensAlike x.command x.before (record x.before { envelopes = envelopes; seals = seals })
    → means.release (record { before = record x.before { envelopes = envelopes; seals = seals }; moment = x.moment; caller = x.caller; command = x.command }) ≡ means.release x

-- The text of a package depends on no digest of a tender and on no seal.
abbrev pub PackagesHideSeals : Packages → Type 0
PackagesHideSeals packages = (query : Query) (s : Tables) (envelopes : List EnvelopeRow) (seals : List SealRow) → Pairs ButDigest s.envelopes envelopes
    → packages query (record s { envelopes = envelopes; seals = seals }) ≡ packages query s

-- The two demands of a caller differ at most in bytes of equal length that the chosen tenderer seals for the chosen lot.
abbrev pub SameDemand : ChosenTender → Tables → Caller → Demand → Demand → Type 0
SameDemand th s caller (Asks command) (Asks command') = SameBut th s caller command command'
SameDemand th s caller (Looks query) (Looks query') = query ≡ query'
SameDemand th s caller demand demand' = ⊥

-- The two requests differ at most in these bytes.
pub record SameRequest (th : ChosenTender) (s : Tables) (a b : Request) : Type 0 where
  pub moment : b.moment ≡ a.moment
  pub caller : b.caller ≡ a.caller
  pub unavailable : b.unavailable ≡ a.unavailable
  pub demand : SameDemand th s a.caller a.demand b.demand

-- The two lists of requests differ, pair by pair, at most in these bytes. A replaced tender is looked up in the office of the first run.
abbrev pub SameButSeals : Means → ChosenTender → Tables → List Request → List Request → Type 0
SameButSeals means th s [] [] = Unit {0}
SameButSeals means th s (a ∷ rest) (b ∷ rest') = SameRequest th s a b × SameButSeals means th (office_after means s a) rest rest'
SameButSeals means th s rest rest' = ⊥

-- A tender in a list, without its digest.
abbrev pub bare_tender : OwnTender → OwnTender
bare_tender t = record t { digest = [] }

-- A reply without the digests of tenders.
abbrev pub without_digest : Reply → Reply
without_digest (Refused why) = Refused why
without_digest (Imported batch rows moment) = Imported batch rows moment
without_digest (Enrolled tenderer moment) = Enrolled tenderer moment
without_digest (OfNotice notice release moment) = OfNotice notice release moment
without_digest (OpenedAll notice count release moment) = OpenedAll notice count release moment
without_digest (Received digest receipt security state moment) = Received [] receipt security state moment
without_digest (Withdrew receipt state moment) = Withdrew receipt state moment
without_digest (Examined receipt responsive moment) = Examined receipt responsive moment
without_digest (Awarded lot best release moment) = Awarded lot best release moment
without_digest (Failed award release moment) = Failed award release moment
without_digest (Signed contract release moment) = Signed contract release moment
without_digest (OfContract contract left release moment) = OfContract contract left release moment
without_digest (Tender digest length notice lot moment receipt security state) = Tender [] length notice lot moment receipt security state
without_digest (LineSeen line title pots) = LineSeen line title pots
without_digest (LedgerSeen rows) = LedgerSeen rows
without_digest (Security amount reference security state tenderer) = Security amount reference security state tenderer
without_digest (PerformanceSeen amount contract reference state tenderer) = PerformanceSeen amount contract reference state tenderer
without_digest (Registry notice rows) = Registry notice rows
without_digest (Minutes notice lots rows) = Minutes notice lots rows
without_digest (Package text) = Package text
without_digest (NoticesSeen next rows) = NoticesSeen next rows
without_digest (TermsSeen notice late lots) = TermsSeen notice late lots
without_digest (OwnTendersSeen rows) = OwnTendersSeen (map bare_tender rows)
without_digest (EvaluationSeen notice lots) = EvaluationSeen notice lots
without_digest (SecuritiesSeen rows) = SecuritiesSeen rows
without_digest (TenderersSeen next rows) = TenderersSeen next rows
without_digest (ContractSeen contract left paid entries) = ContractSeen contract left paid entries

-- The replies differ at most in digests; if the caller isn't the chosen tenderer, they are equal.
pub record ToldAlike (th : ChosenTender) (caller : Caller) (r r' : Reply) : Type 0 where
  pub others : is_by caller th.who ≡ false → r' ≡ r
  pub but_digest : without_digest r' ≡ without_digest r

-- The command opens the notice of the chosen lot.
abbrev pub opens_it : ChosenTender → Command → Bool
opens_it th (Open notice) = same_id notice th.notice
opens_it th command = false

-- The request asks to open the notice of the chosen lot, and isn't refused.
abbrev pub demand_opens : ChosenTender → Tables → Request → Demand → Bool
demand_opens th s a (Asks command) = opens_it th command && not (is_some (refusal_of (given_by_request s a command)))
demand_opens th s a (Looks query) = false

-- The request opens the notice of the chosen lot.
abbrev pub is_opening : ChosenTender → Tables → Request → Bool
is_opening th s a = not a.unavailable && demand_opens th s a a.demand

-- The two offices have the same tenderers, so they know the same callers.
abbrev pub KnowAlike : Tables → Tables → Type 0
KnowAlike s s' = s'.tenderers ≡ s.tenderers

-- The replies of two runs are alike, pair by pair, until a request stops the comparison. The reply to this request is still compared.
abbrev pub AlikeUntil : Means → Packages → ChosenTender → (Tables → Request → Bool) → Tables → Tables → List Request → List Request → Type 0
AlikeUntil means packages th stops s s' [] [] = KnowAlike s s'
AlikeUntil means packages th stops s s' (a ∷ rest) (b ∷ rest') =
    KnowAlike s s' × ToldAlike th a.caller (reply_to means packages s a) (reply_to means packages s' b)
    × (stops s a ≡ false → AlikeUntil means packages th stops (office_after means s a) (office_after means s' b) rest rest')
AlikeUntil means packages th stops s s' rest rest' = ⊥

-- The runs are alike until the notice of the chosen lot is opened.
abbrev pub AlikeUntilOpening : Means → Packages → ChosenTender → Tables → Tables → List Request → List Request → Type 0
AlikeUntilOpening means packages th s s' rest rest' = AlikeUntil means packages th (is_opening th) s s' rest rest'

-- No request stops the comparison.
abbrev pub never : Tables → Request → Bool
never s a = false

-- The runs are alike to their end.
abbrev pub AlikeThroughout : Means → Packages → ChosenTender → Tables → Tables → List Request → List Request → Type 0
AlikeThroughout means packages th s s' rest rest' = AlikeUntil means packages th never s s' rest rest'

-- The bytes of a tender that came in, if one did.
abbrev pub bytes_of : Option Reception → Option (List ℕ)
bytes_of None = None
bytes_of (Some c) = Some c.bytes

-- The tender is withdrawn or returned.
abbrev pub is_gone : Option EnvelopeState → Bool
is_gone None = false
is_gone (Some envelope_states.Sealed) = false
is_gone (Some envelope_states.Withdrawn) = true
is_gone (Some envelope_states.Returned) = true
is_gone (Some envelope_states.Opened) = false

-- Each tender whose bytes differ between the two runs is withdrawn or returned in the end.
abbrev pub DifferingAreGone : List Given → List Given → Type 0
DifferingAreGone xs ys = (r : ℕ) → (bytes_of (received_at xs r) ≡ bytes_of (received_at ys r)) ⊎ (is_gone (fate_of_tender xs r) ≡ true)

-- The law: two runs from a reached office that differ at most in these bytes are alike until the notice of the chosen lot is opened.
abbrev pub SealsAreKept : Type 0
SealsAreKept = (means : Means) (packages : Packages) → ReleasesHideSeals means → PackagesHideSeals packages → (th : ChosenTender) (xs : List Given) (s : Tables) → Reaches means xs s
    → (rest rest' : List Request) → AreRequests means s rest → SameButSeals means th s rest rest' → AlikeUntilOpening means packages th s s rest rest'

-- The law: they are alike to their end if each tender whose bytes differ is withdrawn or returned in the end.
abbrev pub WholeRunsAreAlike : Type 0
WholeRunsAreAlike = (means : Means) (packages : Packages) → ReleasesHideSeals means → PackagesHideSeals packages → (th : ChosenTender) (xs : List Given) (s : Tables) → Reaches means xs s
    → (rest rest' : List Request) → AreRequests means s rest → SameButSeals means th s rest rest' → DifferingAreGone (all_accepted means s xs rest) (all_accepted means s xs rest')
    → AlikeThroughout means packages th s s rest rest'
