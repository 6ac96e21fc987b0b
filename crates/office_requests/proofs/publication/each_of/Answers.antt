use Rattle.office_requests.proofs.Names.{inl, inr}
use Rattle.office_requests.proofs.ElementSteps.{one_more, no_more, all_done}
use Rattle.office_requests.proofs.publication.each_of.Goals as goal

pub returns-in-Err : goal.returns-in-Err
returns-in-Err g c = elim c.in-Err.ensures [
  | inl memory ↦ inl memory
  | inr is ↦ inr (no_more g.T.Element.element_of c.args.values.now c.values.things.items c.values.value-index c.value-item.result _ c.values-test.true c.value-item.is is c.values.invariant)
]

pub values-preserved : goal.values-preserved
values-preserved g c = rw c.in_ok-push-in-Ok.ensures.items (
    one_more g.T.Element.element_of c.args.values.now c.values.things.items c.values.value-index c.value-item.result _ c.values-test.true c.value-item.is c.in-Ok.ensures c.values.invariant)

pub returns : goal.returns
returns g c = all_done g.T.Element.element_of c.args.values.now c.values.things.items c.values.value-index c.values-test.false c.values.invariant
