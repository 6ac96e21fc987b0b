use Rattle.office_base.proofs.JoinedSums.{joined_sums}
use Rattle.office_base.proofs.pots.joined_sums.Goals as goal

pub returns : goal.returns
returns c = joined_sums
