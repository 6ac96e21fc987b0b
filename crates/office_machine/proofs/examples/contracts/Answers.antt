use Rattle.office_machine.proofs.Worked.Contracts.{contracts_worked}
use Rattle.office_machine.proofs.examples.contracts.Goals as goal

pub returns : goal.returns
returns c = contracts_worked
