-- The refusals that are certain: the response is the refusal, or the store has counted another fault.
use Rattle.std.specs.Prelude.{◌≡◌, ℕ, ◌⊎◌, Bool, true, not, ◌||◌, List, Option, Some, None, Result, Ok, option_map}
use Rattle.std.specs.Result.{result_err}
use Rattle.office_commands.specs.declared.command.Caller.{Caller}
use Rattle.office_values.specs.declared.refusal.Refusal.{Refusal}
use Rattle.office_values.specs.declared.settings.Settings.{Settings}
use Rattle.office_base.specs.Faults.{HasRisen}
use Rattle.office_base.specs.Shelves.{Meaning}
use Rattle.office_base.specs.Tables.{Tables}
use Rattle.office_machine.specs.Machine.{refusal_of}
use Rattle.office_machine.specs.Sights.{told}
use Rattle.office_plans.specs.Asking.{given}
use Rattle.office_plans.specs.Published.{takes_memory}
use Rattle.office_plans.specs.Replies.{text_of}
use Rattle.office_desk.specs.Steps.{no_packages}
use Rattle.office_wire.specs.Request.{RequestView}
use Rattle.office_requests.specs.Asking.{is_read_at_once, may_ask}
use Rattle.office_requests.specs.Routing.{routed}
use Rattle.office_requests.specs.declared.route.Allow.{Allow}
use Rattle.office_requests.specs.declared.route.Route.{Route}
use Rattle.office_http.specs.Credentials.{credentials_of}
use Rattle.office_http.specs.Meaning.{Meant, Refuses, Gives, Sees, meant, who}
use Rattle.office_http.specs.Response.{response_of}
use Rattle.office_http.specs.declared.reply.Reply.TheVariants.{Refused}

-- The refusal of the meaning of a request, with the method of the path if the request has another one.
abbrev pub refusal_meant : Tables → ℕ → Meant → Option (Refusal × Option Allow)
refusal_meant s moment (Refuses why method) = Some (why, method)
refusal_meant s moment (Gives caller command) = option_map (λ (why : Refusal). (why, None)) (refusal_of (given s moment caller command))
refusal_meant s moment (Sees caller query) = option_map (λ (why : Refusal). (why, None)) (result_err (text_of (told no_packages s caller query)))

-- This refusal is found without memory. Only an import and a publication take some before it, for the budget lines that they name, and none if it is `Exists`.
abbrev pub takes_none : Meant → Refusal → Bool
takes_none (Gives caller command) why = not (takes_memory command why)
takes_none m why = true

-- The meaning is found without memory. There is no such route, the caller isn't known or may not use it, or the command or query is read without memory.
abbrev pub is_found : List ℕ → Result Route (Refusal × Option Allow) → Result Caller Refusal → Bool
is_found body (Ok route) (Ok caller) = is_read_at_once route.endpoint body || not (may_ask caller route.endpoint)
is_found body route caller = true

-- If meaning and refusal are found without memory, a refused request gets its refusal, or the store has counted another fault.
abbrev pub TellsCertain : {S : Type 0} → Meaning S → Settings → S → S → ℕ → RequestView → List ℕ → Type 0
TellsCertain M settings old new moment request text =
    M.honest new → (s : Tables) → M.holds old s
    → is_found request.body (routed request.head.method request.head.target) (who settings s (credentials_of request.head.fields)) ≡ true
    → (why : Refusal × Option Allow) → refusal_meant s moment (meant settings request s) ≡ Some why → takes_none (meant settings request s) why.0 ≡ true
    → (text ≡ response_of (Refused why.0 why.1)) ⊎ HasRisen (M.fault_count old) (M.fault_count new)
