use Rattle.office_machine.proofs.Worked.Awarding.{awarding_worked}
use Rattle.office_machine.proofs.examples.awarding.Goals as goal

pub returns : goal.returns
returns c = awarding_worked
