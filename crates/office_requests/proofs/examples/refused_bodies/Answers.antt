use Rattle.office_requests.proofs.WorkedRequests.{bodies, publications}
use Rattle.office_requests.proofs.examples.refused_bodies.Goals as goal

pub returns-clause-bodies : goal.returns-clause-bodies
returns-clause-bodies c = bodies

pub returns-clause-publications : goal.returns-clause-publications
returns-clause-publications c = publications
