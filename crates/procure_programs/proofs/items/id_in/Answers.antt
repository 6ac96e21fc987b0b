use Rattle.procure_programs.proofs.ItemSteps.{id_kept}
use Rattle.procure_programs.proofs.items.id_in.Goals as goal

pub returns : goal.returns
returns c = id_kept _ _ c.read.ensures.found c.read.ensures.tested
