-- Requests and runs of them. Any request may be answered `Unavailable`.
use Rattle.std.specs.Prelude.{◌≡◌, ℕ, Bool, cond, List, [], ◌∷◌, Option, Some, None}
use Rattle.office_commands.specs.declared.command.Caller.{Caller}
use Rattle.office_commands.specs.declared.commands.Command.{Command}
use Rattle.office_commands.specs.declared.queries.Query.{Query}
use Rattle.office_values.specs.declared.refusal.Refusal.{Refusal}
use Rattle.office_values.specs.declared.refusal.Refusal.TheVariants.{Unavailable}
use Rattle.office_base.specs.Tables.{Tables}
use Rattle.office_machine.specs.Machine.{Means, Given, CanBeGiven, Reaches, time_of, refusal_of, done, next, reply_for}
use Rattle.office_machine.specs.Replies.{Reply, Refused}
use Rattle.office_machine.specs.Sights.{Packages, told}

-- A request asks for a command or for a query.
pub data Demand : Type 0 where
  Asks : (command : Command) → Demand
  Looks : (query : Query) → Demand

-- A request at a given moment. If `unavailable`, it is answered `Unavailable` and changes nothing.
pub record Request : Type 0 where
  pub moment : ℕ
  pub caller : Caller
  pub demand : Demand
  pub unavailable : Bool

-- The command of a request, given to this office.
abbrev pub given_by_request : Tables → Request → Command → Given
given_by_request s a command = record { before = s; moment = a.moment; caller = a.caller; command = command }

-- The reply to a command: its refusal or, if it has none, the reply of its rule.
abbrev pub reply_by : Option Refusal → Means → Given → Reply
reply_by None means x = reply_for means.readings x.before (done means.readings x) (time_of x) x.caller x.command
reply_by (Some why) means x = Refused why

-- The office after a command. A refused command leaves the office as it was.
abbrev pub office_by : Option Refusal → Means → Given → Tables
office_by None means x = next means x
office_by (Some why) means x = x.before

-- The accepted commands after a command, the last one first. A refused command adds none.
abbrev pub accepted_by : Option Refusal → Given → List Given → List Given
accepted_by None x xs = x ∷ xs
accepted_by (Some why) x xs = xs

-- The reply to a request that isn't answered `Unavailable`.
abbrev pub demand_reply : Means → Packages → Tables → Request → Demand → Reply
demand_reply means packages s a (Asks command) = reply_by (refusal_of (given_by_request s a command)) means (given_by_request s a command)
demand_reply means packages s a (Looks query) = told packages s a.caller query

-- The office after a request that isn't answered `Unavailable`.
abbrev pub demand_office : Means → Tables → Request → Demand → Tables
demand_office means s a (Asks command) = office_by (refusal_of (given_by_request s a command)) means (given_by_request s a command)
demand_office means s a (Looks query) = s

-- The accepted commands after a request that isn't answered `Unavailable`, the last one first.
abbrev pub demand_accepted : Tables → Request → Demand → List Given → List Given
demand_accepted s a (Asks command) xs = accepted_by (refusal_of (given_by_request s a command)) (given_by_request s a command) xs
demand_accepted s a (Looks query) xs = xs

-- The reply to a request.
abbrev pub reply_to : Means → Packages → Tables → Request → Reply
reply_to means packages s a = cond a.unavailable (Refused Unavailable) (demand_reply means packages s a a.demand)

-- The office after a request.
abbrev pub office_after : Means → Tables → Request → Tables
office_after means s a = cond a.unavailable s (demand_office means s a a.demand)

-- The accepted commands after a request, the last one first.
abbrev pub accepted_with : Tables → Request → List Given → List Given
accepted_with s a xs = cond a.unavailable xs (demand_accepted s a a.demand xs)

-- The office after all requests of a list.
abbrev pub last_office : Means → Tables → List Request → Tables
last_office means s [] = s
last_office means s (a ∷ rest) = last_office means (office_after means s a) rest

-- The accepted commands after all requests of a list, the last one first.
abbrev pub all_accepted : Means → Tables → List Given → List Request → List Given
all_accepted means s xs [] = xs
all_accepted means s xs (a ∷ rest) = all_accepted means (office_after means s a) (accepted_with s a xs) rest

-- A command that is asked for can be given to this office.
abbrev pub IsDemand : Tables → Request → Demand → Type 0
IsDemand s a (Asks command) = CanBeGiven (given_by_request s a command)
IsDemand s a (Looks query) = Unit {0}

-- Each command can be given to the office that the requests before it left.
abbrev pub AreRequests : Means → Tables → List Request → Type 0
AreRequests means s [] = Unit {0}
AreRequests means s (a ∷ rest) = IsDemand s a a.demand × AreRequests means (office_after means s a) rest

-- The law: an accepted command leads from a reached office to a reached office.
abbrev pub StepsReach : Type 0
StepsReach = (means : Means) (xs : List Given) (x : Given) → Reaches means xs x.before → CanBeGiven x → refusal_of x ≡ None → Reaches means (x ∷ xs) (next means x)

-- The law: the commands that a run accepts, from a reached office on, lead to the last office of the run.
abbrev pub RunsReach : Type 0
RunsReach = (means : Means) (xs : List Given) (s : Tables) → Reaches means xs s → (rest : List Request) → AreRequests means s rest → Reaches means (all_accepted means s xs rest) (last_office means s rest)
