use Rattle.ocds_merge.proofs.Names.{◌++◌, ◌∷◌, [], ◌∙◌, ap, sym, map, take, unwrap_or, arith, List, Bor, take_more, take_all, map-append, Data, null, view, Value, merge_of, step}
use Rattle.ocds_merge.proofs.MergeLaw.{merged_law}
use Rattle.ocds_merge.proofs.CodeLemmas.{view_or}
use Rattle.ocds_merge.proofs.compiling.merge_in_order.Goals as goal

pub loop-release-preserved : goal.loop-release-preserved
loop-release-preserved c =
    let i = c.loop-release.release-index in
    let x = c.release-item.result in
    let f : Bor Value → Data = λ r. view r.now in
    let vs = c.args.order.now in
    c.in_ok-merge.ensures.step
    ∙ ap (λ t. step t (f x)) c.loop-release.invariant
    ∙ sym (merged_law (map f (take i vs)) (f x) c.in_ok-merge.ensures.proper)
    ∙ ap merge_of (sym (map-append f (take i vs) (x ∷ [])))
    ∙ ap (λ (xs : List (Bor Value)). merge_of (map f xs)) (ap (λ (y : Bor Value). take i vs ++ y ∷ []) c.release-item.is ∙ sym (take_more vs i x (omega arith)))

pub returns : goal.returns
returns c =
    let f : Bor Value → Data = λ r. view r.now in
    ap view c.unwrap_or.ensures ∙ view_or c.loop-release.merge
    ∙ ap (λ o. unwrap_or o null) c.loop-release.invariant
    ∙ ap (λ (xs : List (Bor Value)). unwrap_or (merge_of (map f xs)) null) (take_all c.loop-release.release-index c.args.order.now (omega arith))
