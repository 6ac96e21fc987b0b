use Rattle.office_sums.proofs.NumbersOn.{none_counted}
use Rattle.office_sums.proofs.laws.nothing_counted.Goals as goal

pub returns : goal.returns
returns c = none_counted
