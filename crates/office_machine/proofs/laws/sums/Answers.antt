use Rattle.office_machine.proofs.Accounts.AllFit.{sums_fit}
use Rattle.office_machine.proofs.laws.sums.Goals as goal

pub returns : goal.returns
returns c = sums_fit
