use Rattle.ocds_merge.proofs.Names.{◌++◌, ◌∷◌, [], ◌∙◌, ap, sym, map, take, unwrap_or, arith, take_more, take_all, map-append, null, view, merge_of, step}
use Rattle.ocds_merge.proofs.MergeLaw.{merged_law}
use Rattle.ocds_merge.proofs.CodeLemmas.{view_or}
use Rattle.ocds_merge.proofs.merging.merge_all.Goals as goal

pub loop-value-preserved : goal.loop-value-preserved
loop-value-preserved c =
    let i = c.loop-value.value-index in
    let x = c.value-item.result in
    let vs = c.args.values.now in
    c.in_ok-merge.ensures.step
    ∙ ap (λ t. step t (view x)) c.loop-value.invariant
    ∙ sym (merged_law (map view (take i vs)) (view x) c.in_ok-merge.ensures.proper)
    ∙ ap merge_of (sym (map-append view (take i vs) (x ∷ [])))
    ∙ ap (λ xs. merge_of (map view xs)) (ap (λ y. take i vs ++ y ∷ []) c.value-item.is ∙ sym (take_more vs i x (omega arith)))

pub returns : goal.returns
returns c =
    ap view c.unwrap_or.ensures ∙ view_or c.loop-value.merge
    ∙ ap (λ o. unwrap_or o null) c.loop-value.invariant
    ∙ ap (λ xs. unwrap_or (merge_of (map view xs)) null) (take_all c.loop-value.value-index c.args.values.now (omega arith))
