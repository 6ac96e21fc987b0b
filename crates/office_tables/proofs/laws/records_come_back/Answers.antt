use Rattle.office_tables.proofs.Each.{all_come_back}
use Rattle.office_tables.proofs.laws.records_come_back.Goals as goal

pub returns : goal.returns
returns c = all_come_back
