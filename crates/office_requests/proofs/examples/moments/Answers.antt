use Rattle.office_requests.proofs.MomentReads.{moments}
use Rattle.office_requests.proofs.examples.moments.Goals as goal

pub returns : goal.returns
returns c = moments
