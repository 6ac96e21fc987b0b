-- One answer to the meaning of a request, if this can be given to the specification.
use Rattle.std.specs.Prelude.{◌≡◌, ℕ, ◌⊎◌, Bool, true, List, Option, Some}
use Rattle.office_values.specs.declared.refusal.Refusal.{Refusal}
use Rattle.office_values.specs.declared.settings.Settings.{Settings}
use Rattle.office_base.specs.Faults.{HasRisen}
use Rattle.office_base.specs.Tables.{Tables}
use Rattle.office_base.specs.Shelves.{Meaning}
use Rattle.office_commands.specs.Commands.{IsCommand}
use Rattle.office_machine.specs.Machine.{IsRegistered}
use Rattle.office_publications.specs.Standing.{IsReached}
use Rattle.office_requests.specs.declared.route.Allow.{Allow}
use Rattle.office_http.specs.Certain.{refusal_meant, takes_none}
use Rattle.office_http.specs.Meaning.{Meant, Refuses, Gives, Sees}
use Rattle.office_http.specs.Answering.{StopsAfter, answer_bytes, tables_left}
use Rattle.office_http.specs.Response.{response_of}
use Rattle.office_http.specs.declared.reply.Reply.TheVariants.{Refused}

-- If a command is given, it has an allowed form, and a tenderer who gives it is registered.
abbrev pub CanBeMeant : Tables → Meant → Type 0
CanBeMeant s (Refuses why method) = Unit {0}
CanBeMeant s (Gives caller command) = IsCommand command × IsRegistered caller s.tenderers
CanBeMeant s (Sees caller query) = Unit {0}

-- The store holds this office, which is a reached one.
abbrev pub HoldsStanding : {S : Type 0} → Meaning S → Settings → S → Tables → Type 0
HoldsStanding M settings new s = M.holds new s × IsReached settings.publisher s

-- The meaning of a request is answered with this text, perhaps with `Unavailable`. The store holds the office after it, and a stop leaves only the states of
-- `StopsAfter`.
abbrev pub Answered : {S : Type 0} → Meaning S → Settings → S → S → Tables → ℕ → Meant → List ℕ → Type 0
Answered M settings old new s moment m text =
    (busy : Bool) × (text ≡ answer_bytes settings busy s moment m) × HoldsStanding M settings new (tables_left settings busy s moment m)
    × StopsAfter M settings old new busy s moment m

-- A reached office answers every meaning that can be given in this way.
abbrev pub AnswersMeant : {S : Type 0} → Meaning S → Settings → S → S → ℕ → (Tables → Meant) → List ℕ → Type 0
AnswersMeant M settings old new moment m text =
    M.honest new → (s : Tables) → M.holds old s → IsReached settings.publisher s → CanBeMeant s (m s) → Answered M settings old new s moment (m s) text

-- If the refusal is found without memory, a refused request gets it, or the store has counted another fault.
abbrev pub IsCertain : {S : Type 0} → Meaning S → S → S → ℕ → (Tables → Meant) → List ℕ → Type 0
IsCertain M old new moment m text =
    M.honest new → (s : Tables) → M.holds old s → (why : Refusal × Option Allow) → refusal_meant s moment (m s) ≡ Some why → takes_none (m s) why.0 ≡ true
    → (text ≡ response_of (Refused why.0 why.1)) ⊎ HasRisen (M.fault_count old) (M.fault_count new)
