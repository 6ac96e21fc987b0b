use Rattle.office_machine.proofs.Worked.Signing.{signing_worked}
use Rattle.office_machine.proofs.examples.signing.Goals as goal

pub returns : goal.returns
returns c = signing_worked
