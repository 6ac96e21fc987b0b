-- The command or query that a request asks for, by its route, its query string and its body.
use Rattle.std.specs.Prelude.{ℕ, Bool, true, false, not, if◌then◌else◌, List, Result, Ok, Err, IfOk}
use Rattle.office_values.specs.declared.refusal.Refusal.{Refusal}
use Rattle.office_values.specs.declared.refusal.Refusal.TheVariants.{NoRoute, Forbidden}
use Rattle.office_commands.specs.Commands as of_commands
use Rattle.office_commands.specs.Queries as of_queries
use Rattle.office_commands.specs.Rights.{may, may_look}
use Rattle.office_commands.specs.Table.{Reads, command_row, query_row}
use Rattle.office_commands.specs.Table as table
use Rattle.office_commands.specs.declared.command.Caller.{Caller}
use Rattle.office_commands.specs.declared.command.CommandKind.{CommandKind}
use Rattle.office_commands.specs.declared.command.CommandKind.TheVariants as kinds
use Rattle.office_commands.specs.declared.command.QueryKind.{QueryKind}
use Rattle.office_commands.specs.declared.command.QueryKind.TheVariants as looks
use Rattle.office_commands.specs.declared.commands.Command.{Command}
use Rattle.office_commands.specs.declared.commands.Command.TheVariants as commands
use Rattle.office_commands.specs.declared.queries.Query.{Query}
use Rattle.office_commands.specs.declared.queries.Query.TheVariants as queries
use Rattle.office_wire.specs.Request.{RequestView}
use Rattle.tender_papers.specs.Budget.{budget_of}
use Rattle.tender_papers.specs.Files.{csv_records}
use Rattle.office_requests.specs.Bodies.{begins_object, object_in_body, import_of, registration_in, notice_amendment_in, cancellation_in, examination_in, contract_amendment_in, payment_in, performance_of, ending_in, sealed_in}
use Rattle.office_requests.specs.Fields.{◌>>=◌}
use Rattle.office_requests.specs.Parameters.{query_of, after_in, security_in}
use Rattle.office_requests.specs.Publications.{publication_in}
use Rattle.office_requests.specs.declared.asked.Asked.{Asked}
use Rattle.office_requests.specs.declared.asked.Asked.TheVariants.{Does, Looks}
use Rattle.office_requests.specs.declared.route.Endpoint.{Endpoint}
use Rattle.office_requests.specs.declared.route.Endpoint.TheVariants.{Commands, Queries}
use Rattle.office_requests.specs.declared.route.Place.{Place}
use Rattle.office_requests.specs.declared.route.Place.TheVariants.{Nowhere, Named, Within, Numbered}
use Rattle.office_requests.specs.declared.route.Route.{Route}

-- The caller has the right to ask this.
abbrev pub may_ask : Caller → Endpoint → Bool
may_ask caller (Commands kind) = may caller kind
may_ask caller (Queries kind) = may_look caller kind

-- These parts of a request are read without memory: none at all, or a body that must be a JSON object and doesn't begin as one.
abbrev pub take_no_memory : Reads → List ℕ → Bool
take_no_memory table.Nothing body = true
take_no_memory table.Body body = not (begins_object body)
take_no_memory _ body = false

-- The request is read without memory. Its path alone says what is asked, and neither the query string nor the body is read. Or it is a modification, whose sealed
-- bytes are borrowed. Or its body must be a JSON object and doesn't begin as one, such as the empty body of a signing. An import's body isn't JSON.
abbrev pub is_read_at_once : Endpoint → List ℕ → Bool
is_read_at_once (Commands kinds.Modify) body = true
is_read_at_once (Commands kinds.Import) body = false
is_read_at_once (Commands kind) body = take_no_memory (command_row kind).reads body
is_read_at_once (Queries kind) body = take_no_memory (query_row kind).reads body

-- The command of a route, with this query string and this body. A path with the parameters of another command has no route.
unfoldable pub command_at : CommandKind → Place → List ℕ → List ℕ → Result Command Refusal
command_at kinds.Import (Named batch) query body = import_of batch (budget_of (csv_records body))
command_at kinds.Register (Named tenderer) query body = object_in_body body >>= registration_in tenderer
command_at kinds.Publish (Named notice) query body = object_in_body body >>= publication_in notice
command_at kinds.AmendNotice (Named notice) query body = object_in_body body >>= notice_amendment_in notice
command_at kinds.Cancel (Named notice) query body = object_in_body body >>= cancellation_in notice
command_at kinds.Open (Named notice) query body = Ok (commands.Open notice)
command_at kinds.Present (Within notice lot) query body = do
  security ← security_in query
  sealed ← sealed_in body
  Ok (commands.Present notice lot security sealed)
command_at kinds.Modify (Numbered receipt) query body = sealed_in body >>= λ sealed. Ok (commands.Modify receipt sealed)
command_at kinds.Withdraw (Numbered receipt) query body = Ok (commands.Withdraw receipt)
command_at kinds.Examine (Numbered receipt) query body = object_in_body body >>= examination_in receipt
command_at kinds.Award (Within notice lot) query body = Ok (commands.Award notice lot)
command_at kinds.Fail (Numbered award) query body = Ok (commands.Fail award)
command_at kinds.Sign (Numbered award) query body = performance_of body >>= λ named. Ok (commands.Sign award named)
command_at kinds.AmendContract (Numbered contract) query body = object_in_body body >>= contract_amendment_in contract
command_at kinds.Pay (Numbered contract) query body = object_in_body body >>= payment_in contract
command_at kinds.End (Numbered contract) query body = object_in_body body >>= ending_in contract
command_at _ _ query body = Err NoRoute

-- The query of a route, with this query string. A path with the parameters of another query has no route.
unfoldable pub query_at : QueryKind → Place → List ℕ → Result Query Refusal
query_at looks.Line (Named line) query = Ok (queries.Line line)
query_at looks.Ledger Nowhere query = Ok queries.Ledger
query_at looks.Minutes (Named notice) query = Ok (queries.Minutes notice)
query_at looks.Register (Named notice) query = Ok (queries.Register notice)
query_at looks.Releases (Named notice) query = Ok (queries.Releases notice)
query_at looks.Record (Named notice) query = Ok (queries.Record notice)
query_at looks.Tender (Numbered receipt) query = Ok (queries.Tender receipt)
query_at looks.Security (Numbered security) query = Ok (queries.Security security)
query_at looks.Performance (Numbered contract) query = Ok (queries.Performance contract)
query_at looks.Notices Nowhere query = after_in query >>= λ after. Ok (queries.Notices after)
query_at looks.Terms (Named notice) query = Ok (queries.Terms notice)
query_at looks.OwnTenders (Named notice) query = Ok (queries.OwnTenders notice)
query_at looks.Evaluation (Named notice) query = Ok (queries.Evaluation notice)
query_at looks.Securities (Named notice) query = Ok (queries.Securities notice)
query_at looks.Tenderers Nowhere query = after_in query >>= λ after. Ok (queries.Tenderers after)
query_at looks.Contract (Numbered contract) query = Ok (queries.Contract contract)
query_at _ _ query = Err NoRoute

-- The command or query of a route, with this query string and this body.
unfoldable pub asked_by : Endpoint → Place → List ℕ → List ℕ → Result Asked Refusal
asked_by (Commands kind) place query body = command_at kind place query body >>= λ command. Ok (Does command)
asked_by (Queries kind) place query body = query_at kind place query >>= λ look. Ok (Looks look)

-- The command or query that the caller asks for by a route and this request. The right is checked before the query string and the body are read.
abbrev pub asked_by_route : Caller → Route → RequestView → Result Asked Refusal
asked_by_route caller route request =
    if may_ask caller route.endpoint then asked_by route.endpoint route.place (query_of request.head.target) request.body
    else Err Forbidden

-- The kind of the command or query.
abbrev pub endpoint_of : Asked → Endpoint
endpoint_of (Does command) = Commands (of_commands.kind_of command)
endpoint_of (Looks look) = Queries (of_queries.query_kind_of look)

-- A query can always be asked; a command must be one that can be given.
abbrev pub CanBeAsked : Asked → Type 0
CanBeAsked (Does command) = of_commands.IsCommand command
CanBeAsked (Looks look) = Unit {0}

-- The law: every command that a request asks for can be given.
abbrev pub WhatIsAskedCanBeGiven : Type 0
WhatIsAskedCanBeGiven = (caller : Caller) (route : Route) (request : RequestView) → IfOk (asked_by_route caller route request) CanBeAsked
