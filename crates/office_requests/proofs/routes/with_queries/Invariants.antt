use Rattle.office_requests.proofs.Names.{◌≡◌, map, drop, inserted, query_route}
use Rattle.office_requests.proofs.routes.with_queries.Given as goal

abbrev pub invariant-kinds : goal.invariant-kinds
invariant-kinds l = inserted (map query_route (drop l.kind-index l.kinds)) l.router ≡ inserted (map query_route l.kinds) l.fn.router
