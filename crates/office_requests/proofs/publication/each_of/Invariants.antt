use Rattle.office_requests.proofs.ElementSteps.{IsSoFar}
use Rattle.office_requests.proofs.publication.each_of.Given as goal

abbrev pub invariant-values : goal.invariant-values
invariant-values g l = IsSoFar g.T.Element.element_of l.values l.value-index l.things.items
