use Rattle.office_tables.proofs.Told.{told}
use Rattle.office_tables.proofs.laws.trees_tell_one_office.Goals as goal

pub returns : goal.returns
returns c = told
