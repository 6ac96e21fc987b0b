use Rattle.office_requests.proofs.FormSteps.{id_kept}
use Rattle.office_requests.proofs.forms.IdFromText.from_text.Goals as goal

pub returns : goal.returns
returns c = id_kept _ _ c.read.ensures.found c.read.ensures.tested
