-- The meaning of a request can be given to the specification.
use Rattle.office_http.proofs.Names.{Option, Result, Ok, Err, IfOk, Caller, Refusal, Settings, Tables, RequestView, CanBeAsked, WhatIsAskedCanBeGiven, asked_by_route, routed, Asked, Does, Allow, Route, credentials_of, meant, meant_asked, meant_at, meant_by, who, CanBeMeant}
use Rattle.office_requests.specs.declared.asked.Asked.TheVariants.{Looks}
use Rattle.office_http.proofs.KnownCallers.{IsKnown, IsRead, who_known}

pub asked_can : (s : Tables) (caller : Caller) (read : Result Asked Refusal) → IsRead (IsKnown s) (Ok caller) → IfOk read CanBeAsked → CanBeMeant s (meant_asked caller read)
unfolding IsRead
asked_can s caller (Err why) known is = tt
asked_can s caller (Ok (Does command)) known is = (is, known)
asked_can s caller (Ok (Looks query)) known is = tt

caller_can : WhatIsAskedCanBeGiven → (s : Tables) (route : Route) (request : RequestView) (caller : Result Caller Refusal) → IsRead (IsKnown s) caller
    → CanBeMeant s (meant_by route request caller)
unfolding IsRead
caller_can law s route request (Err why) known = tt
caller_can law s route request (Ok caller) known = asked_can s caller (asked_by_route caller route request) known (law caller route request)

route_can : WhatIsAskedCanBeGiven → (settings : Settings) (request : RequestView) (s : Tables) (route : Result Route (Refusal × Option Allow))
    → CanBeMeant s (meant_at settings request s route)
route_can law settings request s (Err why) = tt
route_can law settings request s (Ok route) =
    caller_can law s route request (who settings s (credentials_of request.head.fields)) (who_known settings s (credentials_of request.head.fields))

pub meant_can : WhatIsAskedCanBeGiven → (settings : Settings) (request : RequestView) (s : Tables) → CanBeMeant s (meant settings request s)
meant_can law settings request s = route_can law settings request s (routed request.head.method request.head.target)
