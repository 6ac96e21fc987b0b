use Rattle.procure_programs.proofs.ItemSteps.{IsSoFar}
use Rattle.procure_programs.proofs.items.each_of.Given as goal

abbrev pub invariant-values : goal.invariant-values
invariant-values l = IsSoFar l.values l.value-index l.items.items
