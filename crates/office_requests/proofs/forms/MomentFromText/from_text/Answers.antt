use Rattle.office_requests.proofs.MomentReads.{moment_read}
use Rattle.office_requests.proofs.forms.MomentFromText.from_text.Goals as goal

pub returns : goal.returns
returns c = moment_read _ _ c.read.ensures.found c.read.ensures.none
