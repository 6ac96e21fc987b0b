use Rattle.office_sums.proofs.PutAmounts.{amounts-put}
use Rattle.office_sums.proofs.laws.amounts_stay.Goals as goal

pub returns : goal.returns
returns c = amounts-put
