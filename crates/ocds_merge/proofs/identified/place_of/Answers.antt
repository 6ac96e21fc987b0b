use Rattle.ocds_merge.proofs.Names.{◌≡◌, ◌<◌, ◌∙◌, ap, sym, subst, map, take, length, get_or, false, arith, bytes_eq, List, take_more, get_or-map, length-map, Data, null, view, id_of, Lacks}
use Rattle.ocds_merge.proofs.CodeLemmas.{lacks_push}
use Rattle.ocds_merge.proofs.identified.place_of.Goals as goal

pub loop-place-preserved : goal.loop-place-preserved
loop-place-preserved c =
    let i = c.loop-place.place in
    let id = c.args.id.now in
    let ds : List Data = map view c.args.items.now in
    let x = c.index-items-place.result in
    let low : i < length ds = omega (arith, length-map c.args.items.now view) in
    let here : get_or ds i null ≡ view x = get_or-map view c.args.items.now i x null (omega arith) ∙ ap view (sym c.index-items-place.is) in
    let other : bytes_eq (id_of (get_or ds i null)) id ≡ false =
    ap (λ d. bytes_eq (id_of d) id) here ∙ ap (λ y. bytes_eq y id) (sym c.id_of.ensures) ∙ sym c.eq.ensures ∙ c.if-eq.false in
    subst (λ (xs : List Data). Lacks id xs) (sym (take_more ds i null low)) (lacks_push id (take i ds) (get_or ds i null) c.loop-place.invariant other)
