-- The specification's replies as they are sent.
use Rattle.office_http.proofs.Names.{◌≡◌, ℕ, Bool, true, false, List, ◌∷◌, Option, Some, None, Ok, Err, refl, cond, not, map, filter, ◌||◌, query_kind_of, is_by, is_clerk, may_look, Caller, Command, Modify, Query, Refusal, Forbidden, NotOpened, NotYourTender, LineRow, LotRow, NoticeRow, SecurityRow, AwardRow, ContractRow, EntryRow, LateRow, PerformanceRow, TendererRow, EnvelopeRow, ClockRow, outstanding, paid_under, notice_of_envelope, first_of, is_opened, Tables, envelope_at, envelopes_of_notice, line_at, lots_of_notice, notice_at, security_at, contract_at, performance_at, awards_of_notice, entries_of_contract, late_at, securities_of_notice, modify_tests, evaluated_lot, evaluation_told, Given, done, may_give, refusal_of, reply_for, tests_for, time_of, Reply, Tender, Security, PerformanceSeen, Minutes, modify_reply, EvaluationSeen, ContractSeen, office_readings, Readings, Packages, is_read_envelope, line_told, minuted, minutes_told, package_told, register_told, security_told, performance_told, shown, tender_told, contract_told, own_tenders_told, securities_told, terms_told, accepted_reply, reply_text, text_of, told_as, seen_as, Json, Text}
use Rattle.office_commands.specs.declared.queries.Query.TheVariants as queries
use Rattle.office_machine.specs.Replies.{Refused}
use Rattle.office_machine.specs.Sights.{told}
use Rattle.office_http.specs.declared.reply.Reply as replies
use Rattle.office_http.specs.declared.reply.Reply.TheVariants as variants

-- A refusal is sent as a refusal.
pub refused_as : (r : Reply) (why : Refusal) → Err why ≡ text_of r → told_as r ≡ variants.Refused why None
refused_as (Refused other) why is = cc
refused_as _ why is = absurd (cc)

-- The reply to an accepted command.

modified : (readings : Readings) (clock : ClockRow) (t : ℕ) (caller : Caller) (bytes : List ℕ) (given : Bool) (envelope : Option EnvelopeRow) (notice : Option NoticeRow)
    → first_of ((not given, Forbidden) ∷ modify_tests (record { envelope = envelope; notice = notice; clock = clock }) t caller) ≡ None
    → told_as (modify_reply readings clock t bytes envelope) ≡ Json (reply_text (modify_reply readings clock t bytes envelope))
modified readings clock t caller bytes true None notice allowed = absurd (cc)
modified readings clock t caller bytes false None notice allowed = absurd (cc)
modified readings clock t caller bytes given (Some e) notice allowed = refl

as_json : (readings : Readings) (s u : Tables) (t : ℕ) (caller : Caller) (command : Command)
    → first_of ((not (may_give caller command), Forbidden) ∷ tests_for s t caller command) ≡ None
    → told_as (reply_for readings s u t caller command) ≡ Json (reply_text (reply_for readings s u t caller command))
as_json readings s u t caller (Modify receipt bytes) allowed =
    modified readings s.clock t caller bytes (may_give caller (Modify receipt bytes)) (envelope_at receipt s) (notice_of_envelope (envelope_at receipt s) s) allowed
as_json readings s u t caller _ allowed = refl

-- It is sent as JSON.
pub accepted_as : (x : Given) → refusal_of x ≡ None → told_as (accepted_reply x) ≡ Json (reply_text (accepted_reply x))
accepted_as x allowed = as_json office_readings x.before (done office_readings x) (time_of x) x.caller x.command allowed

-- The answer to a query.

-- The answer if the caller may ask.
where_may : (may : Bool) (r : Reply) (why : Refusal) (reply : replies.Reply) (text : List ℕ) → (Ok text ≡ text_of r → told_as r ≡ reply)
    → Ok text ≡ text_of (cond may r (Refused why)) → told_as (cond may r (Refused why)) ≡ reply
where_may true r why reply text seen is = seen is
where_may false r why reply text seen is = absurd (cc)

line_seen : (s : Tables) (row : Option LineRow) (text : List ℕ) → Ok text ≡ text_of (line_told s row) → told_as (line_told s row) ≡ Json text
line_seen s None text is = absurd (cc)
line_seen s (Some row) text is = cc

minutes_seen : (n : Option NoticeRow) (lots : List LotRow) (tenderers : List TendererRow) (envelopes : List EnvelopeRow) (text : List ℕ)
    → Ok text ≡ text_of (minutes_told n lots tenderers envelopes) → told_as (minutes_told n lots tenderers envelopes) ≡ Text text
minutes_seen None lots tenderers envelopes text is = absurd (cc)
minutes_seen (Some n) lots tenderers envelopes text is =
    where_may (is_opened n.state) (Minutes n lots (map (minuted tenderers) (filter is_read_envelope envelopes))) NotOpened (Text text) text (λ at. cc) is

register_seen : (n : Option NoticeRow) (envelopes : List EnvelopeRow) (text : List ℕ) → Ok text ≡ text_of (register_told n envelopes)
    → told_as (register_told n envelopes) ≡ Text text
register_seen None envelopes text is = absurd (cc)
register_seen (Some n) envelopes text is = cc

package_seen : (n : Option NoticeRow) (package_text text : List ℕ) → Ok text ≡ text_of (package_told n package_text)
    → told_as (package_told n package_text) ≡ Json text
package_seen None package_text text is = absurd (cc)
package_seen (Some n) package_text text is = cc

tender_seen : (caller : Caller) (e : Option EnvelopeRow) (text : List ℕ) → Ok text ≡ text_of (tender_told caller e)
    → told_as (tender_told caller e) ≡ Json text
tender_seen caller None text is = absurd (cc)
tender_seen caller (Some e) text is =
    where_may (is_by caller e.tenderer) (Tender e.digest e.length e.notice e.lot e.moment e.receipt e.security e.state) NotYourTender (Json text) text
    (λ at. cc) is

security_seen : (caller : Caller) (w : Option SecurityRow) (text : List ℕ) → Ok text ≡ text_of (security_told caller w)
    → told_as (security_told caller w) ≡ Json text
security_seen caller None text is = absurd (cc)
security_seen caller (Some w) text is =
    where_may (is_clerk caller || is_by caller w.tenderer) (Security w.amount w.reference w.security w.state w.tenderer) NotYourTender (Json text) text
    (λ at. cc) is

performance_seen : (caller : Caller) (c : Option ContractRow) (w : Option PerformanceRow) (text : List ℕ) → Ok text ≡ text_of (performance_told caller c w)
    → told_as (performance_told caller c w) ≡ Json text
performance_seen caller None w text is = absurd (cc)
performance_seen caller (Some c) None text is = absurd (cc)
performance_seen caller (Some c) (Some w) text is =
    where_may (is_clerk caller || is_by caller c.tenderer) (PerformanceSeen w.amount c.contract w.reference w.state c.tenderer) NotYourTender (Json text) text
    (λ at. cc) is

terms_seen : (n : Option NoticeRow) (late : Option LateRow) (lots : List LotRow) (text : List ℕ) → Ok text ≡ text_of (terms_told n late lots)
    → told_as (terms_told n late lots) ≡ Json text
terms_seen None late lots text is = absurd (cc)
terms_seen (Some n) late lots text is = cc

own_tenders_seen : (caller : Caller) (s : Tables) (n : Option NoticeRow) (lots : List LotRow) (text : List ℕ) → Ok text ≡ text_of (own_tenders_told caller s n lots)
    → told_as (own_tenders_told caller s n lots) ≡ Json text
own_tenders_seen caller s None lots text is = absurd (cc)
own_tenders_seen caller s (Some n) lots text is = cc

evaluation_seen : (caller : Caller) (s : Tables) (n : Option NoticeRow) (lots : List LotRow) (awards : List AwardRow) (text : List ℕ)
    → Ok text ≡ text_of (evaluation_told caller s n lots awards) → told_as (evaluation_told caller s n lots awards) ≡ Text text
evaluation_seen caller s None lots awards text is = absurd (cc)
evaluation_seen caller s (Some n) lots awards text is =
    where_may (is_opened n.state) (EvaluationSeen n.notice (map (evaluated_lot caller n.weight awards s) lots)) NotOpened (Text text) text (λ at. cc) is

securities_seen : (n : Option NoticeRow) (securities : List SecurityRow) (text : List ℕ) → Ok text ≡ text_of (securities_told n securities)
    → told_as (securities_told n securities) ≡ Json text
securities_seen None securities text is = absurd (cc)
securities_seen (Some n) securities text is = cc

contract_seen : (caller : Caller) (c : Option ContractRow) (entries : List EntryRow) (text : List ℕ) → Ok text ≡ text_of (contract_told caller c entries)
    → told_as (contract_told caller c entries) ≡ Json text
contract_seen caller None entries text is = absurd (cc)
contract_seen caller (Some c) entries text is =
    where_may (is_clerk caller || is_by caller c.tenderer) (ContractSeen c (outstanding entries c) (paid_under entries c) entries) NotYourTender (Json text) text
    (λ at. cc) is

shown_as : (p : Packages) (s : Tables) (caller : Caller) (query : Query) (text : List ℕ) → Ok text ≡ text_of (shown p s caller query)
    → told_as (shown p s caller query) ≡ seen_as (query_kind_of query) text
shown_as p s caller (queries.Line line) text is = line_seen s (line_at line s) text is
shown_as p s caller queries.Ledger text is = cc
shown_as p s caller (queries.Minutes notice) text is =
    minutes_seen (notice_at notice s) (lots_of_notice notice s) s.tenderers (envelopes_of_notice notice s) text is
shown_as p s caller (queries.Register notice) text is = register_seen (notice_at notice s) (envelopes_of_notice notice s) text is
shown_as p s caller (queries.Releases notice) text is = package_seen (notice_at notice s) (p (queries.Releases notice) s) text is
shown_as p s caller (queries.Record notice) text is = package_seen (notice_at notice s) (p (queries.Record notice) s) text is
shown_as p s caller (queries.Tender receipt) text is = tender_seen caller (envelope_at receipt s) text is
shown_as p s caller (queries.Security security) text is = security_seen caller (security_at security s) text is
shown_as p s caller (queries.Performance contract) text is = performance_seen caller (contract_at contract s) (performance_at contract s) text is
shown_as p s caller (queries.Notices after) text is = cc
shown_as p s caller (queries.Terms notice) text is = terms_seen (notice_at notice s) (late_at notice s) (lots_of_notice notice s) text is
shown_as p s caller (queries.OwnTenders notice) text is = own_tenders_seen caller s (notice_at notice s) (lots_of_notice notice s) text is
shown_as p s caller (queries.Evaluation notice) text is =
    evaluation_seen caller s (notice_at notice s) (lots_of_notice notice s) (awards_of_notice notice s) text is
shown_as p s caller (queries.Securities notice) text is = securities_seen (notice_at notice s) (securities_of_notice notice s) text is
shown_as p s caller (queries.Tenderers after) text is = cc
shown_as p s caller (queries.Contract contract) text is = contract_seen caller (contract_at contract s) (entries_of_contract contract s) text is

-- The kind of the query decides how its answer is sent.
pub told_seen : (p : Packages) (s : Tables) (caller : Caller) (query : Query) (text : List ℕ) → Ok text ≡ text_of (told p s caller query)
    → told_as (told p s caller query) ≡ seen_as (query_kind_of query) text
told_seen p s caller query text is =
    where_may (may_look caller (query_kind_of query)) (shown p s caller query) Forbidden (seen_as (query_kind_of query) text) text (shown_as p s caller query text) is
