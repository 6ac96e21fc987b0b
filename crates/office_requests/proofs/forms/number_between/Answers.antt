use Rattle.office_requests.proofs.FormSteps.{number_kept}
use Rattle.office_requests.proofs.forms.number_between.Goals as goal

pub returns : goal.returns
returns g c = number_kept _ _ _ _ c.read.ensures.found c.read.ensures.least c.read.ensures.most c.read.ensures.none
