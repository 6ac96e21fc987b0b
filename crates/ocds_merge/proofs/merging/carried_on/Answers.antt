use Rattle.ocds_merge.proofs.Names.{◌∙◌, ap, sym, unwrap_or, null, view, step, not_null}
use Rattle.ocds_merge.proofs.MergeLaw.{merged_law, merged_not_null}
use Rattle.ocds_merge.proofs.CodeLemmas.{view_or}
use Rattle.ocds_merge.proofs.merging.carried_on.Goals as goal

pub returns-clause-merges : goal.returns-clause-merges
returns-clause-merges c vs is =
    let one = view c.args.value.now in
    ap view c.unwrap_or.ensures ∙ view_or c.in_ok-after.after
    ∙ ap (λ o. unwrap_or o null)
    (c.in_ok-after.ensures.step
    ∙ ap (λ t. step t one) (c.present.ensures ∙ ap not_null is ∙ merged_not_null vs)
    ∙ sym (merged_law vs one c.in_ok-after.ensures.proper))
