use Rattle.office_machine.proofs.Terms.PagesAlong.{nothing_taken_away, pages_whole_along}
use Rattle.office_machine.proofs.laws.pages_along.Goals as goal

pub returns-clause-stay : goal.returns-clause-stay
returns-clause-stay c = nothing_taken_away

pub returns-clause-whole : goal.returns-clause-whole
returns-clause-whole c = pages_whole_along
