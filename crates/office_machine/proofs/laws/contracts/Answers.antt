use Rattle.office_machine.proofs.Terms.ContractsKept.{contracts_of_awards}
use Rattle.office_machine.proofs.laws.contracts.Goals as goal

pub returns : goal.returns
returns c = contracts_of_awards
