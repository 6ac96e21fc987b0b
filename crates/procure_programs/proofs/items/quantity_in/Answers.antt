use Rattle.procure_programs.proofs.ItemSteps.{number_kept}
use Rattle.procure_programs.proofs.items.quantity_in.Goals as goal

pub returns : goal.returns
returns c = number_kept _ _ _ _ c.read.ensures.found c.read.ensures.least c.read.ensures.most c.read.ensures.none
