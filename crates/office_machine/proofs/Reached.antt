-- The commands that a run accepts lead to its last office.
use Rattle.office_machine.proofs.Names.{◌≡◌, Bool, true, false, List, [], ◌∷◌, Option, Some, None, refl, Tables, Refusal, Means, Given, CanBeGiven, Reaches, refusal_of, puts_of, next, Demand, Asks, Looks, Request, given_by_request, office_by, accepted_by, demand_office, demand_accepted, office_after, accepted_with, IsDemand, RunsReach, StepsReach, sorted-puts, cond}
use Rattle.office_machine.proofs.Parents.ParentsThere.{parents_kept, parents_there}
use Rattle.office_machine.proofs.Passed.{allowed_by, may_by}
use Rattle.office_machine.proofs.Rows.SortedTables.{sorted}

-- an accepted command leads to the office after it
pub steps_reach : StepsReach
steps_reach means xs x reached own allowed =
    let order = sorted means xs x.before reached in
    let have = parents_kept means x.before x.moment x.caller order (parents_there means xs x.before reached) own.1 x.command (may_by x allowed) (allowed_by x allowed) in
    record {
      reached = reached;
      given = own;
      allowed = allowed;
      merges = (next means x).compiled;
      in_order = (sorted-puts (puts_of means x) x.before order).compiled;
      of_notices = λ key r found. (have.merges key r found).notice;
      is = refl;
    }

one : (means : Means) (xs : List Given) (x : Given) → Reaches means xs x.before → CanBeGiven x → (o : Option Refusal) → refusal_of x ≡ o → Reaches means (accepted_by o x xs) (office_by o means x)
one means xs x reached own None e = steps_reach means xs x reached own e
one means xs x reached own (Some why) e = reached

demanded : (means : Means) (xs : List Given) (s : Tables) (a : Request) → Reaches means xs s → (d : Demand) → IsDemand s a d → Reaches means (demand_accepted s a d xs) (demand_office means s a d)
demanded means xs s a reached (Asks command) own = one means xs (given_by_request s a command) reached own (refusal_of (given_by_request s a command)) refl
demanded means xs s a reached (Looks query) own = reached

request_reaches : (means : Means) (xs : List Given) (s : Tables) (a : Request) → Reaches means xs s → IsDemand s a a.demand → (u : Bool) → Reaches means (cond u xs (demand_accepted s a a.demand xs)) (cond u s (demand_office means s a a.demand))
request_reaches means xs s a reached own true = reached
request_reaches means xs s a reached own false = demanded means xs s a reached a.demand own

pub runs_reach : RunsReach
runs_reach means xs s reached [] own = reached
runs_reach means xs s reached (a ∷ rest) own = runs_reach means (accepted_with s a xs) (office_after means s a) (request_reaches means xs s a reached own.0 a.unavailable) rest own.1
