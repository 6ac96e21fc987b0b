-- The meaning of a request to an office. It is the first refusal of its route, its caller, the caller's rights, its query string and its body, in this order.
-- If nothing is refused, it is a command or a query.
use Rattle.std.specs.Prelude.{ℕ, List, Option, None, Result, Ok, Err}
use Rattle.office_commands.specs.declared.command.Caller.{Caller}
use Rattle.office_commands.specs.declared.commands.Command.{Command}
use Rattle.office_commands.specs.declared.queries.Query.{Query}
use Rattle.office_values.specs.declared.refusal.Refusal.{Refusal}
use Rattle.office_values.specs.declared.settings.Settings.{Settings}
use Rattle.office_base.specs.Tables.{Tables}
use Rattle.office_desk.specs.Callers.{caller_of}
use Rattle.office_wire.specs.Request.{RequestView}
use Rattle.office_requests.specs.Asking.{asked_by_route}
use Rattle.office_requests.specs.Routing.{routed}
use Rattle.office_requests.specs.declared.asked.Asked.{Asked}
use Rattle.office_requests.specs.declared.asked.Asked.TheVariants.{Does, Looks}
use Rattle.office_requests.specs.declared.route.Allow.{Allow}
use Rattle.office_requests.specs.declared.route.Route.{Route}
use Rattle.office_http.specs.Credentials.{credentials_of}

-- A refusal, with the method of the path if the request has another one; or a command or a query, with its caller.
pub data Meant : Type 0 where
  Refuses : (why : Refusal) → (method : Option Allow) → Meant
  Gives : (caller : Caller) → (command : Command) → Meant
  Sees : (caller : Caller) → (query : Query) → Meant

-- The meaning of a caller's command or query, or of its refusal.
abbrev pub meant_asked : Caller → Result Asked Refusal → Meant
meant_asked caller (Err why) = Refuses why None
meant_asked caller (Ok (Does command)) = Gives caller command
meant_asked caller (Ok (Looks query)) = Sees caller query

-- The caller, by the values of two fields.
abbrev pub who : Settings → Tables → Result (Option (List ℕ) × Option (List ℕ)) Refusal → Result Caller Refusal
who settings s (Err why) = Err why
who settings s (Ok values) = caller_of settings s values.0 values.1

-- The meaning by a route and this request.
abbrev pub meant_by : Route → RequestView → Result Caller Refusal → Meant
meant_by route request (Err why) = Refuses why None
meant_by route request (Ok caller) = meant_asked caller (asked_by_route caller route request)

abbrev pub meant_at : Settings → RequestView → Tables → Result Route (Refusal × Option Allow) → Meant
meant_at settings request s (Err why) = Refuses why.0 why.1
meant_at settings request s (Ok route) = meant_by route request (who settings s (credentials_of request.head.fields))

-- The meaning of a request to an office.
abbrev pub meant : Settings → RequestView → Tables → Meant
meant settings request s = meant_at settings request s (routed request.head.method request.head.target)
