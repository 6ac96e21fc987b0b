use Rattle.procure_programs.proofs.Names.{inl, inr}
use Rattle.procure_programs.proofs.ItemSteps.{one_more, no_more, all_done}
use Rattle.procure_programs.proofs.items.each_of.Goals as goal

pub returns-in-Err : goal.returns-in-Err
returns-in-Err c = elim c.in-Err.ensures [
  | inl memory ↦ inl memory
  | inr is ↦ inr (no_more c.args.values.now c.values.items.items c.values.value-index c.value-item.result _ c.values-test.true c.value-item.is is c.values.invariant)
]

pub values-preserved : goal.values-preserved
values-preserved c = rw c.in_ok-push-in-Ok.ensures.items (
    one_more c.args.values.now c.values.items.items c.values.value-index c.value-item.result _ c.values-test.true c.value-item.is c.in-Ok.ensures c.values.invariant)

pub returns : goal.returns
returns c = all_done c.args.values.now c.values.items.items c.values.value-index c.values-test.false c.values.invariant
