use Rattle.office_requests.proofs.WorkedRequests.{looks}
use Rattle.office_requests.proofs.examples.refused_looks.Goals as goal

pub returns : goal.returns
returns c = looks
