use Rattle.office_machine.proofs.Lacking.{none_lacking}
use Rattle.office_machine.proofs.laws.lacking.Goals as goal

pub returns : goal.returns
returns c = none_lacking
