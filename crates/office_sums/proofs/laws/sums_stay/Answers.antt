use Rattle.office_sums.proofs.SumsStaying.{sums_stay}
use Rattle.office_sums.proofs.laws.sums_stay.Goals as goal

pub returns : goal.returns
returns c = sums_stay
