use Rattle.office_sums.proofs.Known.{none_known}
use Rattle.office_sums.proofs.laws.nothing_remembered.Goals as goal

pub returns : goal.returns
returns c = λ t. record { each = λ line sums found. none_known line sums found }
