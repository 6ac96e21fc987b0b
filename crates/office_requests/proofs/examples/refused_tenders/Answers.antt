use Rattle.office_requests.proofs.WorkedRequests.{tenders}
use Rattle.office_requests.proofs.examples.refused_tenders.Goals as goal

pub returns : goal.returns
returns c = tenders
