use Rattle.office_http.proofs.Names.{refl, digits}
use Rattle.office_http.proofs.response.unavailable.Goals as goal

pub returns : goal.returns
unfolding digits
returns c = refl
