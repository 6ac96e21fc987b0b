use Rattle.office_machine.proofs.QueriesOrdered.{first_answers, least_answers}
use Rattle.office_machine.proofs.laws.query_refusals.Goals as goal

pub returns-clause-first : goal.returns-clause-first
returns-clause-first c = first_answers

pub returns-clause-least : goal.returns-clause-least
returns-clause-least c = least_answers
