use Rattle.ocds_merge.proofs.Names.{◌≡◌, ◌<◌, ◌∙◌, ℕ, List, sym, subst, ap, map, take, get_or, length, arith, take_more, get_or-map, length-map, Data, null, view, id_of, Lacks, HaveDistinctIds}
use Rattle.ocds_merge.proofs.PendingLaw.{distinct_push}
use Rattle.ocds_merge.proofs.list_text.distinct_places.Goals as goal

pub loop-place-preserved : goal.loop-place-preserved
loop-place-preserved c =
    let xs = c.args.items.now in
    let i = c.loop-place.place in
    let x = c.index-items-place.result in
    let low : i < length xs = omega arith in
    let more : i < length (map view xs) = omega (arith, length-map xs view) in
    let at : get_or (map view xs) i null ≡ view x = get_or-map view xs i x null low ∙ ap view (sym c.index-items-place.is) in
    let lacks : Lacks (id_of (view x)) (take i (map view xs)) = subst (λ (s : List ℕ). Lacks s (take i (map view xs))) c.id_of.ensures (c.is_new.ensures c.if-not-is_new.false) in
    subst HaveDistinctIds (sym (take_more (map view xs) i null more))
    (distinct_push (take i (map view xs)) (get_or (map view xs) i null) c.loop-place.invariant
    (subst (λ (d : Data). Lacks (id_of d) (take i (map view xs))) (sym at) lacks))
