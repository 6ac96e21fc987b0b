use Rattle.office_machine.proofs.Worked.Budgets.{budgets_worked}
use Rattle.office_machine.proofs.examples.budgets.Goals as goal

pub returns : goal.returns
returns c = budgets_worked
