use Rattle.office_publications.proofs.InSequence.{last_and_next, placed}
use Rattle.office_publications.proofs.laws.numbering.Goals as goal

pub returns-clause-last : goal.returns-clause-last
returns-clause-last c = λ notice count t sorted are. last_and_next notice t sorted count are

pub returns-clause-places : goal.returns-clause-places
returns-clause-places c = λ notice count t sorted are k. placed notice t sorted count are k
