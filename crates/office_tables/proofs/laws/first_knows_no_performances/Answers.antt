use Rattle.office_tables.proofs.EarlierEditions.{no_performances}
use Rattle.office_tables.proofs.laws.first_knows_no_performances.Goals as goal

pub returns : goal.returns
returns c = no_performances
