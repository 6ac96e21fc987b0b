-- Of the refusals of a query whose condition holds, the one with the least number answers it, as it does for a command.
use Rattle.std.specs.Prelude.{◌≡◌, ℕ, Bool, not, ◌||◌, List, [], ◌∷◌, Option, Some, None, is_some}
use Rattle.office_commands.specs.Callers.{is_by}
use Rattle.office_commands.specs.Queries.{query_kind_of}
use Rattle.office_commands.specs.Rights.{is_clerk, may_look}
use Rattle.office_commands.specs.declared.command.Caller.{Caller}
use Rattle.office_commands.specs.declared.queries.Query.{Query}
use Rattle.office_commands.specs.declared.queries.Query.TheVariants as queries
use Rattle.office_values.specs.declared.refusal.Refusal.{Refusal}
use Rattle.office_values.specs.declared.refusal.Refusal.TheVariants.{Forbidden, NoSuch, NotYourTender, NotOpened}
use Rattle.office_values.specs.declared.refusal.Thing.{Thing}
use Rattle.office_values.specs.declared.refusal.Thing.TheVariants as things
use Rattle.office_base.specs.Rows.{holds_of}
use Rattle.office_base.specs.Rules.{first_of}
use Rattle.office_base.specs.States.{is_opened}
use Rattle.office_base.specs.Tables.{Tables, contract_at, envelope_at, line_at, notice_at, performance_at, security_at}
use Rattle.office_base.specs.declared.records.ContractRow.{ContractRow}
use Rattle.office_base.specs.declared.records.EnvelopeRow.{EnvelopeRow}
use Rattle.office_base.specs.declared.records.NoticeRow.{NoticeRow}
use Rattle.office_base.specs.declared.records.SecurityRow.{SecurityRow}
use Rattle.office_machine.specs.Order.{IsLeast}
use Rattle.office_machine.specs.Replies.{Reply, Refused}
use Rattle.office_machine.specs.Sights.{Packages, told}

-- The row that the query names doesn't exist.
abbrev pub named_test : {X : Type 0} → Thing → Option X → Bool × Refusal
named_test thing row = (not (is_some row), NoSuch thing)

-- The notice wasn't opened.
abbrev pub isnt_opened_yet : NoticeRow → Bool
isnt_opened_yet n = not (is_opened n.state)

-- The caller is neither the clerk nor this tenderer.
abbrev pub is_neither : Caller → List ℕ → Bool
is_neither caller tenderer = not (is_clerk caller || is_by caller tenderer)

-- The conditions of a query's refusals, in their order, for a caller who may ask it.
abbrev pub query_tests : Tables → Caller → Query → List (Bool × Refusal)
query_tests s caller (queries.Line line) = named_test things.Line (line_at line s) ∷ []
query_tests s caller queries.Ledger = []
query_tests s caller (queries.Minutes notice) = named_test things.Notice (notice_at notice s) ∷ (holds_of isnt_opened_yet (notice_at notice s), NotOpened) ∷ []
query_tests s caller (queries.Register notice) = named_test things.Notice (notice_at notice s) ∷ []
query_tests s caller (queries.Releases notice) = named_test things.Notice (notice_at notice s) ∷ []
query_tests s caller (queries.Record notice) = named_test things.Notice (notice_at notice s) ∷ []
query_tests s caller (queries.Tender receipt) =
    named_test things.Tender (envelope_at receipt s) ∷ (holds_of (λ (e : EnvelopeRow). not (is_by caller e.tenderer)) (envelope_at receipt s), NotYourTender) ∷ []
query_tests s caller (queries.Security security) =
    named_test things.Security (security_at security s) ∷ (holds_of (λ (w : SecurityRow). is_neither caller w.tenderer) (security_at security s), NotYourTender) ∷ []
query_tests s caller (queries.Performance contract) =
    named_test things.Contract (contract_at contract s)
    ∷ named_test things.Security (performance_at contract s)
    ∷ (holds_of (λ (c : ContractRow). is_neither caller c.tenderer) (contract_at contract s), NotYourTender)
    ∷ []
query_tests s caller (queries.Notices after) = []
query_tests s caller (queries.Terms notice) = named_test things.Notice (notice_at notice s) ∷ []
query_tests s caller (queries.OwnTenders notice) = named_test things.Notice (notice_at notice s) ∷ []
query_tests s caller (queries.Evaluation notice) = named_test things.Notice (notice_at notice s) ∷ (holds_of isnt_opened_yet (notice_at notice s), NotOpened) ∷ []
query_tests s caller (queries.Securities notice) = named_test things.Notice (notice_at notice s) ∷ []
query_tests s caller (queries.Tenderers after) = []
query_tests s caller (queries.Contract contract) =
    named_test things.Contract (contract_at contract s) ∷ (holds_of (λ (c : ContractRow). is_neither caller c.tenderer) (contract_at contract s), NotYourTender) ∷ []

-- These conditions, and before them that the caller may not ask the query.
abbrev pub asking_tests : Tables → Caller → Query → List (Bool × Refusal)
asking_tests s caller query = (not (may_look caller (query_kind_of query)), Forbidden) ∷ query_tests s caller query

-- The refusal that a reply is, if it is one.
abbrev pub refusal_in : Reply → Option Refusal
refusal_in (Refused why) = Some why
refusal_in _ = None

-- A query is refused for the first of these conditions that holds, and shown if none holds.
abbrev pub FirstAnswersQuery : Type 0
FirstAnswersQuery = (packages : Packages) (s : Tables) (caller : Caller) (query : Query) → refusal_in (told packages s caller query) ≡ first_of (asking_tests s caller query)

-- That is the refusal of the least number whose condition holds.
abbrev pub LeastAnswersQuery : Type 0
LeastAnswersQuery = (packages : Packages) (s : Tables) (caller : Caller) (query : Query) (why : Refusal) → refusal_in (told packages s caller query) ≡ Some why
    → IsLeast (asking_tests s caller query) why
