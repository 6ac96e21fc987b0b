use Rattle.office_requests.proofs.WorkedRequests.{paths}
use Rattle.office_requests.proofs.examples.refused_paths.Goals as goal

pub returns : goal.returns
returns c = paths
