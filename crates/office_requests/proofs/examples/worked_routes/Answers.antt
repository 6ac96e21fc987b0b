use Rattle.office_requests.proofs.WorkedRequests.{routes}
use Rattle.office_requests.proofs.examples.worked_routes.Goals as goal

pub returns : goal.returns
returns c = routes
