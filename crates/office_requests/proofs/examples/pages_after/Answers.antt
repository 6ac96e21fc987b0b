use Rattle.office_requests.proofs.AfterAsked.{after_asks_for_id}
use Rattle.office_requests.proofs.examples.pages_after.Goals as goal

pub returns : goal.returns
returns c = after_asks_for_id
