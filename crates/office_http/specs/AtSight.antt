-- The refusals of a request at sight. They depend neither on the content of the office nor on the memory.
use Rattle.std.specs.Prelude.{◌≡◌, ℕ, Bool, true, if◌then◌else◌, List, Option, Some, None, Result, Ok, Err}
use Rattle.office_commands.specs.declared.command.Caller.{Caller}
use Rattle.office_values.specs.declared.refusal.Refusal.{Refusal}
use Rattle.office_values.specs.declared.refusal.Refusal.TheVariants.{Forbidden}
use Rattle.office_values.specs.declared.settings.Settings.{Settings}
use Rattle.office_base.specs.Tables.{no_tables}
use Rattle.office_desk.specs.Callers.{names_no_tenderer}
use Rattle.office_wire.specs.Request.{RequestView}
use Rattle.office_requests.specs.Asking.{may_ask}
use Rattle.office_requests.specs.Routing.{routed}
use Rattle.office_requests.specs.declared.route.Allow.{Allow}
use Rattle.office_requests.specs.declared.route.Route.{Route}
use Rattle.office_http.specs.Credentials.{credentials_of}
use Rattle.office_http.specs.Meaning.{who}
use Rattle.office_http.specs.Response.{response_of}
use Rattle.office_http.specs.declared.reply.Reply.TheVariants.{Refused}

-- The caller is known without a look-up of a tenderer.
abbrev pub is_known_at_sight : Result (Option (List ℕ) × Option (List ℕ)) Refusal → Bool
is_known_at_sight (Err why) = true
is_known_at_sight (Ok values) = names_no_tenderer values.0 values.1

-- The refusal if the caller isn't known or may not use this route.
abbrev pub refused_to : Route → Result Caller Refusal → Option (Refusal × Option Allow)
refused_to route (Err why) = Some (why, None)
refused_to route (Ok caller) = if may_ask caller route.endpoint then None else Some (Forbidden, None)

-- The refusal by the route. If there is a route, the refusal by a caller who is known at sight.
abbrev pub refused_by_route : Settings → RequestView → Result Route (Refusal × Option Allow) → Option (Refusal × Option Allow)
refused_by_route settings request (Err why) = Some why
refused_by_route settings request (Ok route) =
    if is_known_at_sight (credentials_of request.head.fields) then refused_to route (who settings no_tables (credentials_of request.head.fields)) else None

-- The refusal of a request at sight, with the method of the path if the request has another one. None if the refusal depends on the office's tables, on the
-- query string or on the body.
abbrev pub refused_at_sight : Settings → RequestView → Option (Refusal × Option Allow)
refused_at_sight settings request = refused_by_route settings request (routed request.head.method request.head.target)

-- The response is this refusal, if there is one.
abbrev pub TellsAtSight : Settings → RequestView → List ℕ → Type 0
TellsAtSight settings request text = (why : Refusal × Option Allow) → refused_at_sight settings request ≡ Some why → text ≡ response_of (Refused why.0 why.1)
