use Rattle.office_base.proofs.AllPages.{tables_are_paged}
use Rattle.office_base.proofs.laws.pages.Goals as goal

pub returns : goal.returns
returns c = tables_are_paged
