use Rattle.office_machine.proofs.Commands.Ordered.{least_answered}
use Rattle.office_machine.proofs.laws.refusals.Goals as goal

pub returns-clause-least : goal.returns-clause-least
returns-clause-least c = least_answered
