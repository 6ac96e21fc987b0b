use Rattle.office_requests.proofs.Names.{◌≡◌, map, drop, inserted, command_route}
use Rattle.office_requests.proofs.routes.with_commands.Given as goal

abbrev pub invariant-kinds : goal.invariant-kinds
invariant-kinds l = inserted (map command_route (drop l.kind-index l.kinds)) l.router ≡ inserted (map command_route l.kinds) l.fn.router
