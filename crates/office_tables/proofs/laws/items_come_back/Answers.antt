use Rattle.office_tables.proofs.ItemLemmas.{items_back}
use Rattle.office_tables.proofs.laws.items_come_back.Goals as goal

pub returns : goal.returns
returns c = items_back
