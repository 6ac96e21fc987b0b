use Rattle.procure_config.proofs.Names.{sym, ◌∙◌}
use Rattle.procure_config.proofs.Lines.{one_more, no_more, all_done}
use Rattle.procure_config.proofs.settings.read_lines.Goals as goal

pub returns-in-None : goal.returns-in-None
returns-in-None c =
    no_more c.args.values.now c.values.value-index c.value-item.result _ c.values-test.true c.value-item.is
    (sym c.in-None.is ∙ c.in_ok-line.ensures) c.values.invariant

pub values-preserved : goal.values-preserved
values-preserved c = rw c.in_ok-push-in-Some.ensures.items (
    one_more c.args.values.now c.values.value-index c.value-item.result _ _ c.values-test.true c.value-item.is
    (sym c.in-Some.is ∙ c.in_ok-line.ensures) c.values.invariant)

pub returns : goal.returns
returns c = all_done c.args.values.now c.values.value-index _ c.values-test.false c.values.invariant
