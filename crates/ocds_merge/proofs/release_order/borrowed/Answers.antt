use Rattle.ocds_merge.proofs.Names.{◌∙◌, ◌∷◌, ◌++◌, [], ap, sym, map, take, arith, List, Bor, take_more, map-append, Data, view, Value}
use Rattle.ocds_merge.proofs.release_order.borrowed.Goals as goal

pub loop-release-preserved : goal.loop-release-preserved
loop-release-preserved c =
    let i = c.loop-release.release-index in
    let x = c.release-item.result in
    let rs = c.args.releases.now in
    let seen : Bor Value → Data = λ r. view r.now in
    ap (map seen) c.in_ok-push.ensures.items ∙ map-append seen c.loop-release.all.items (_ ∷ [])
    ∙ ap (λ (ds : List Data). ds ++ view x ∷ []) c.loop-release.invariant
    ∙ sym (map-append view (take i rs) (x ∷ []))
    ∙ ap (λ (vs : List Value). map view vs) (ap (λ (y : Value). take i rs ++ y ∷ []) c.release-item.is ∙ sym (take_more rs i x (omega arith)))
