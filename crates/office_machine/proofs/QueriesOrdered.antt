-- The refusals of queries are tested in the order of their numbers.
use Rattle.office_machine.proofs.Names.{◌≡◌, ℕ, Bool, true, false, not, cond, ◌||◌, List, [], ◌∷◌, Option, Some, None, refl, sym, ◌∙◌, is_by, query_kind_of, is_clerk, may_look, Caller, Query, Refusal, Forbidden, NotOpened, NotYourTender, first_of, is_opened, Tables, contract_at, envelope_at, entries_of_contract, envelopes_of_notice, late_at, line_at, lots_of_notice, notice_at, performance_at, securities_of_notice, security_at, awards_of_notice, AwardRow, ContractRow, EntryRow, EnvelopeRow, LateRow, LineRow, LotRow, NoticeRow, PerformanceRow, SecurityRow, TendererRow, holds_of, evaluation_told, FirstAnswersQuery, LeastAnswersQuery, asking_tests, is_neither, isnt_opened_yet, named_test, query_tests, refusal_in, Reply, Packages, contract_told, line_told, minutes_told, own_tenders_told, package_told, performance_told, register_told, securities_told, security_told, shown, tender_told, terms_told}
use Rattle.office_commands.specs.declared.queries.Query.TheVariants as queries
use Rattle.office_values.specs.declared.refusal.Thing.TheVariants as things
use Rattle.office_machine.specs.Replies.{Refused}
use Rattle.office_machine.proofs.Commands.Ordered.{least, rises, risen}

-- a reply that is shown under a condition, and else refused
unless : (b : Bool) (reply : Reply) (why : Refusal) → refusal_in reply ≡ None → refusal_in (cond b reply (Refused why)) ≡ first_of ((not b, why) ∷ [])
unless true reply why none = none
unless false reply why none = refl

line_first : (s : Tables) (o : Option LineRow) → refusal_in (line_told s o) ≡ first_of (named_test things.Line o ∷ [])
line_first s None = refl
line_first s (Some r) = refl

tender_first : (caller : Caller) (o : Option EnvelopeRow)
    → refusal_in (tender_told caller o) ≡ first_of (named_test things.Tender o ∷ (holds_of (λ (e : EnvelopeRow). not (is_by caller e.tenderer)) o, NotYourTender) ∷ [])
tender_first caller None = refl
tender_first caller (Some e) = unless (is_by caller e.tenderer) _ NotYourTender refl

register_first : (o : Option NoticeRow) (es : List EnvelopeRow) → refusal_in (register_told o es) ≡ first_of (named_test things.Notice o ∷ [])
register_first None es = refl
register_first (Some n) es = refl

minutes_first : (o : Option NoticeRow) (ls : List LotRow) (ts : List TendererRow) (es : List EnvelopeRow)
    → refusal_in (minutes_told o ls ts es) ≡ first_of (named_test things.Notice o ∷ (holds_of isnt_opened_yet o, NotOpened) ∷ [])
minutes_first None ls ts es = refl
minutes_first (Some n) ls ts es = unless (is_opened n.state) _ NotOpened refl

security_first : (caller : Caller) (o : Option SecurityRow)
    → refusal_in (security_told caller o) ≡ first_of (named_test things.Security o ∷ (holds_of (λ (w : SecurityRow). is_neither caller w.tenderer) o, NotYourTender) ∷ [])
security_first caller None = refl
security_first caller (Some w) = unless (is_clerk caller || is_by caller w.tenderer) _ NotYourTender refl

performance_first : (caller : Caller) (o : Option ContractRow) (p : Option PerformanceRow)
    → refusal_in (performance_told caller o p)
    ≡ first_of (named_test things.Contract o ∷ named_test things.Security p ∷ (holds_of (λ (c : ContractRow). is_neither caller c.tenderer) o, NotYourTender) ∷ [])
performance_first caller None p = refl
performance_first caller (Some c) None = refl
performance_first caller (Some c) (Some w) = unless (is_clerk caller || is_by caller c.tenderer) _ NotYourTender refl

terms_first : (o : Option NoticeRow) (late : Option LateRow) (ls : List LotRow) → refusal_in (terms_told o late ls) ≡ first_of (named_test things.Notice o ∷ [])
terms_first None late ls = refl
terms_first (Some n) late ls = refl

own_first : (caller : Caller) (s : Tables) (o : Option NoticeRow) (ls : List LotRow) → refusal_in (own_tenders_told caller s o ls) ≡ first_of (named_test things.Notice o ∷ [])
own_first caller s None ls = refl
own_first caller s (Some n) ls = refl

securities_first : (o : Option NoticeRow) (ws : List SecurityRow) → refusal_in (securities_told o ws) ≡ first_of (named_test things.Notice o ∷ [])
securities_first None ws = refl
securities_first (Some n) ws = refl

contract_first : (caller : Caller) (o : Option ContractRow) (es : List EntryRow)
    → refusal_in (contract_told caller o es) ≡ first_of (named_test things.Contract o ∷ (holds_of (λ (c : ContractRow). is_neither caller c.tenderer) o, NotYourTender) ∷ [])
contract_first caller None es = refl
contract_first caller (Some c) es = unless (is_clerk caller || is_by caller c.tenderer) _ NotYourTender refl

package_first : (o : Option NoticeRow) (text : List ℕ) → refusal_in (package_told o text) ≡ first_of (named_test things.Notice o ∷ [])
package_first None text = refl
package_first (Some n) text = refl

evaluation_first : (caller : Caller) (s : Tables) (o : Option NoticeRow) (ls : List LotRow) (ws : List AwardRow)
    → refusal_in (evaluation_told caller s o ls ws) ≡ first_of (named_test things.Notice o ∷ (holds_of isnt_opened_yet o, NotOpened) ∷ [])
evaluation_first caller s None ls ws = refl
evaluation_first caller s (Some n) ls ws = unless (is_opened n.state) _ NotOpened refl

-- what is shown to a caller who may ask
shown_first : (packages : Packages) (s : Tables) (caller : Caller) (query : Query) → refusal_in (shown packages s caller query) ≡ first_of (query_tests s caller query)
shown_first packages s caller (queries.Line line) = line_first s (line_at line s)
shown_first packages s caller queries.Ledger = refl
shown_first packages s caller (queries.Minutes notice) = minutes_first (notice_at notice s) (lots_of_notice notice s) s.tenderers (envelopes_of_notice notice s)
shown_first packages s caller (queries.Register notice) = register_first (notice_at notice s) (envelopes_of_notice notice s)
shown_first packages s caller (queries.Releases notice) = package_first (notice_at notice s) (packages (queries.Releases notice) s)
shown_first packages s caller (queries.Record notice) = package_first (notice_at notice s) (packages (queries.Record notice) s)
shown_first packages s caller (queries.Tender receipt) = tender_first caller (envelope_at receipt s)
shown_first packages s caller (queries.Security security) = security_first caller (security_at security s)
shown_first packages s caller (queries.Performance contract) = performance_first caller (contract_at contract s) (performance_at contract s)
shown_first packages s caller (queries.Notices after) = refl
shown_first packages s caller (queries.Terms notice) = terms_first (notice_at notice s) (late_at notice s) (lots_of_notice notice s)
shown_first packages s caller (queries.OwnTenders notice) = own_first caller s (notice_at notice s) (lots_of_notice notice s)
shown_first packages s caller (queries.Evaluation notice) = evaluation_first caller s (notice_at notice s) (lots_of_notice notice s) (awards_of_notice notice s)
shown_first packages s caller (queries.Securities notice) = securities_first (notice_at notice s) (securities_of_notice notice s)
shown_first packages s caller (queries.Tenderers after) = refl
shown_first packages s caller (queries.Contract contract) = contract_first caller (contract_at contract s) (entries_of_contract contract s)

by_right : (b : Bool) (reply : Reply) (first : Option Refusal) → refusal_in reply ≡ first → refusal_in (cond b reply (Refused Forbidden)) ≡ cond (not b) (Some Forbidden) first
by_right true reply first is = is
by_right false reply first is = refl

pub first_answers : FirstAnswersQuery
first_answers packages s caller query =
    by_right (may_look caller (query_kind_of query)) (shown packages s caller query) (first_of (query_tests s caller query)) (shown_first packages s caller query)

-- the numbers of these refusals never fall
asking_rises : (s : Tables) (caller : Caller) (query : Query) → rises 0 (asking_tests s caller query) ≡ true
asking_rises s caller (queries.Line line) = refl
asking_rises s caller _ = refl

pub least_answers : LeastAnswersQuery
least_answers packages s caller query why is =
    least 0 (asking_tests s caller query) why (risen 0 (asking_tests s caller query) (asking_rises s caller query)) (sym (first_answers packages s caller query) ∙ is)
