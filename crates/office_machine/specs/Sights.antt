-- The replies to queries, and the callers that may ask them.
use Rattle.std.specs.Prelude.{ℕ, ◌+◌, Bool, cond, ◌||◌, List, map, filter, take, Option, Some, None, is_some}
use Rattle.std.specs.List.{flat_map}
use Rattle.office_commands.specs.declared.command.Caller.{Caller}
use Rattle.office_commands.specs.declared.queries.Query.{Query}
use Rattle.office_commands.specs.declared.queries.Query.TheVariants as queries
use Rattle.office_commands.specs.Queries.{query_kind_of}
use Rattle.office_commands.specs.Callers.{is_by, tenderer_of}
use Rattle.office_commands.specs.Rights.{is_clerk, may_look}
use Rattle.office_values.specs.declared.refusal.Thing.TheVariants as things
use Rattle.office_values.specs.declared.refusal.Refusal.TheVariants.{Forbidden, NoSuch, NotYourTender, NotOpened}
use Rattle.office_base.specs.Limits.{page_limit}
use Rattle.office_base.specs.Pages.{next_after, notices_after, tenderers_after}
use Rattle.office_base.specs.States.{is_read, is_receiving, is_opened}
use Rattle.office_base.specs.Joined.{outstanding, paid_under, pots_of, ledger_of}
use Rattle.office_base.specs.declared.records.LineRow.{LineRow}
use Rattle.office_base.specs.declared.records.TendererRow.{TendererRow}
use Rattle.office_base.specs.declared.records.NoticeRow.{NoticeRow}
use Rattle.office_base.specs.declared.records.LotRow.{LotRow}
use Rattle.office_base.specs.declared.records.EnvelopeRow.{EnvelopeRow}
use Rattle.office_base.specs.declared.records.SecurityRow.{SecurityRow}
use Rattle.office_base.specs.declared.records.ContractRow.{ContractRow}
use Rattle.office_base.specs.declared.records.EntryRow.{EntryRow}
use Rattle.office_base.specs.declared.records.LateRow.{LateRow}
use Rattle.office_base.specs.declared.records.PerformanceRow.{PerformanceRow}
use Rattle.office_base.specs.Tables.{Tables, notice_key, tenderer_key, find_tenderer, line_at, notice_at, envelope_at, security_at, contract_at, late_at, performance_at}
use Rattle.office_base.specs.Tables.{lots_of_notice, envelopes_of_notice, envelopes_of_tenderer, securities_of_notice, awards_of_notice, entries_of_contract}
use Rattle.office_machine.specs.Evaluation.{evaluation_told}
use Rattle.office_machine.specs.Replies.{Reply, Refused, LineSeen, LedgerSeen, Tender, Security, PerformanceSeen, Registry, Minutes, Package, Registered, Minuted}
use Rattle.office_machine.specs.Replies.{NoticesSeen, TermsSeen, OwnTendersSeen, SecuritiesSeen, TenderersSeen, ContractSeen, OwnTender, ListedSecurity, ListedTenderer}

-- A budget line with its appropriation and its free money, and with its other balances as sums over rows.
abbrev pub line_told : Tables → Option LineRow → Reply
line_told s None = Refused (NoSuch things.Line)
line_told s (Some row) = LineSeen row.line row.title (pots_of row s)

-- Only the tenderer who submitted a tender sees it.
abbrev pub tender_told : Caller → Option EnvelopeRow → Reply
tender_told caller None = Refused (NoSuch things.Tender)
tender_told caller (Some e) =
    cond (is_by caller e.tenderer) (Tender e.digest e.length e.notice e.lot e.moment e.receipt e.security e.state) (Refused NotYourTender)

-- A tender as a line of the register.
abbrev pub registered : EnvelopeRow → Registered
registered e = record { receipt = e.receipt; lot = e.lot; moment = e.moment; length = e.length; state = e.state }

-- The register of a notice has all tenders that came for it.
abbrev pub register_told : Option NoticeRow → List EnvelopeRow → Reply
register_told None envelopes = Refused (NoSuch things.Notice)
register_told (Some n) envelopes = Registry n.notice (map registered envelopes)

-- A tender as a line of the minutes.
abbrev pub minuted : List TendererRow → EnvelopeRow → Minuted
minuted tenderers e = record { receipt = e.receipt; lot = e.lot; tenderer = e.tenderer; party = find_tenderer tenderers e.tenderer; reading = e.reading }

-- The tender was opened.
abbrev pub is_read_envelope : EnvelopeRow → Bool
is_read_envelope e = is_read e.state

-- The minutes of a notice have its opened tenders. `NotOpened` unless the notice's state is opened.
abbrev pub minutes_told : Option NoticeRow → List LotRow → List TendererRow → List EnvelopeRow → Reply
minutes_told None lots tenderers envelopes = Refused (NoSuch things.Notice)
minutes_told (Some n) lots tenderers envelopes =
    cond (is_opened n.state) (Minutes n lots (map (minuted tenderers) (filter is_read_envelope envelopes))) (Refused NotOpened)

-- Only the tenderer who named a security and the clerk see it.
abbrev pub security_told : Caller → Option SecurityRow → Reply
security_told caller None = Refused (NoSuch things.Security)
security_told caller (Some w) =
    cond (is_clerk caller || is_by caller w.tenderer) (Security w.amount w.reference w.security w.state w.tenderer) (Refused NotYourTender)

-- Only the contract's tenderer and the clerk see a performance security. A missing contract is reported before a missing security.
abbrev pub performance_told : Caller → Option ContractRow → Option PerformanceRow → Reply
performance_told caller None security = Refused (NoSuch things.Contract)
performance_told caller (Some c) None = Refused (NoSuch things.Security)
performance_told caller (Some c) (Some w) =
    cond (is_clerk caller || is_by caller c.tenderer) (PerformanceSeen w.amount c.contract w.reference w.state c.tenderer) (Refused NotYourTender)

-- A page of notices, from the rows of the page and one more if it exists. If it does, `next` is the key of the page's last row.
abbrev pub notices_told : List NoticeRow → Reply
notices_told rows = NoticesSeen (next_after notice_key page_limit rows) (take page_limit rows)

-- A tenderer as listed, without the digest of the key.
abbrev pub listed_tenderer : TendererRow → ListedTenderer
listed_tenderer r = record { tenderer = r.tenderer; name = r.name; address = r.address }

-- A page of tenderers, from the rows of the page and one more if it exists.
abbrev pub tenderers_told : List TendererRow → Reply
tenderers_told rows = TenderersSeen (next_after tenderer_key page_limit rows) (map listed_tenderer (take page_limit rows))

-- The terms that bind anyone who submits a tender: the notice, whether a tender may be withdrawn late, and the lots (Model Law, article 39).
abbrev pub terms_told : Option NoticeRow → Option LateRow → List LotRow → Reply
terms_told None late lots = Refused (NoSuch things.Notice)
terms_told (Some n) late lots = TermsSeen n (is_some late) lots

-- A tender as its own tenderer sees it in a list.
abbrev pub own_tender : EnvelopeRow → OwnTender
own_tender e = record { digest = e.digest; length = e.length; lot = e.lot; moment = e.moment; receipt = e.receipt; security = e.security; state = e.state }

-- The caller's tenders for a lot.
abbrev pub own_of_lot : Caller → Tables → LotRow → List EnvelopeRow
own_of_lot caller s l = envelopes_of_tenderer l.notice l.lot (tenderer_of caller) s

-- The caller's tenders for a notice, lot by lot.
abbrev pub own_tenders_told : Caller → Tables → Option NoticeRow → List LotRow → Reply
own_tenders_told caller s None lots = Refused (NoSuch things.Notice)
own_tenders_told caller s (Some n) lots = OwnTendersSeen (map own_tender (flat_map (own_of_lot caller s) lots))

-- A security as listed. While tenders are received, its tenderer isn't named.
abbrev pub listed_security : NoticeRow → SecurityRow → ListedSecurity
listed_security n w = record {
  amount = w.amount;
  lot = w.lot;
  reference = w.reference;
  security = w.security;
  state = w.state;
  tenderer = cond (is_receiving n.state) None (Some w.tenderer);
}

-- The securities of a notice.
abbrev pub securities_told : Option NoticeRow → List SecurityRow → Reply
securities_told None securities = Refused (NoSuch things.Notice)
securities_told (Some n) securities = SecuritiesSeen (map (listed_security n) securities)

-- Only a contract's tenderer and the clerk see it, with its entries, the outstanding amount and the amount paid.
abbrev pub contract_told : Caller → Option ContractRow → List EntryRow → Reply
contract_told caller None entries = Refused (NoSuch things.Contract)
contract_told caller (Some c) entries =
    cond (is_clerk caller || is_by caller c.tenderer) (ContractSeen c (outstanding entries c) (paid_under entries c) entries) (Refused NotYourTender)

-- The text of a package, if its notice exists.
abbrev pub package_told : Option NoticeRow → List ℕ → Reply
package_told None text = Refused (NoSuch things.Notice)
package_told (Some n) text = Package text

-- The texts of packages, a parameter of the specification.
abbrev pub Packages : Type 0
Packages = Query → Tables → List ℕ

-- The reply to a query that the caller may ask.
abbrev pub shown : Packages → Tables → Caller → Query → Reply
shown packages s caller (queries.Line line) = line_told s (line_at line s)
shown packages s caller queries.Ledger = LedgerSeen (ledger_of s)
shown packages s caller (queries.Minutes notice) = minutes_told (notice_at notice s) (lots_of_notice notice s) s.tenderers (envelopes_of_notice notice s)
shown packages s caller (queries.Register notice) = register_told (notice_at notice s) (envelopes_of_notice notice s)
shown packages s caller (queries.Releases notice) = package_told (notice_at notice s) (packages (queries.Releases notice) s)
shown packages s caller (queries.Record notice) = package_told (notice_at notice s) (packages (queries.Record notice) s)
shown packages s caller (queries.Tender receipt) = tender_told caller (envelope_at receipt s)
shown packages s caller (queries.Security security) = security_told caller (security_at security s)
shown packages s caller (queries.Performance contract) = performance_told caller (contract_at contract s) (performance_at contract s)
shown packages s caller (queries.Notices after) = notices_told (notices_after after (page_limit + 1) s)
shown packages s caller (queries.Terms notice) = terms_told (notice_at notice s) (late_at notice s) (lots_of_notice notice s)
shown packages s caller (queries.OwnTenders notice) = own_tenders_told caller s (notice_at notice s) (lots_of_notice notice s)
shown packages s caller (queries.Evaluation notice) = evaluation_told caller s (notice_at notice s) (lots_of_notice notice s) (awards_of_notice notice s)
shown packages s caller (queries.Securities notice) = securities_told (notice_at notice s) (securities_of_notice notice s)
shown packages s caller (queries.Tenderers after) = tenderers_told (tenderers_after after (page_limit + 1) s)
shown packages s caller (queries.Contract contract) = contract_told caller (contract_at contract s) (entries_of_contract contract s)

-- The reply to a query; `Forbidden` if the caller may not ask it.
abbrev pub told : Packages → Tables → Caller → Query → Reply
told packages s caller query = cond (may_look caller (query_kind_of query)) (shown packages s caller query) (Refused Forbidden)
