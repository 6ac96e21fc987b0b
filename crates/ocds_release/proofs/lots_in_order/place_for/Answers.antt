use Rattle.ocds_release.proofs.Names.{◌≡◌, ◌<◌, ◌∙◌, ap, sym, subst, map, take, length, get_or, true, [], arith, List, ℕ, Bor, take_more, get_or-map, length-map, is_lt, id_cmp, NewLot, AreEarlier}
use Rattle.ocds_release.proofs.LotOrder.{earlier_push}
use Rattle.ocds_release.proofs.lots_in_order.place_for.Goals as goal

pub loop-place-preserved : goal.loop-place-preserved
loop-place-preserved c =
    let i = c.loop-place.place in
    let id = c.args.id in
    let f : Bor NewLot → List ℕ = λ r. r.now.id in
    let ds : List (List ℕ) = map f c.args.order.now in
    let x = c.index-order-place.result in
    let low : i < length ds = omega (arith, length-map c.args.order.now f) in
    let here : get_or ds i [] ≡ f x = get_or-map f c.args.order.now i x [] (omega arith) ∙ ap f (sym c.index-order-place.is) in
    let earlier : is_lt (id_cmp (get_or ds i []) id) ≡ true =
    ap (λ (d : List ℕ). is_lt (id_cmp d id)) here ∙ sym c.is_before.ensures ∙ c.if-not-is_before.false in
    subst (λ (xs : List (List ℕ)). AreEarlier id xs) (sym (take_more ds i [] low)) (earlier_push id (take i ds) (get_or ds i []) c.loop-place.invariant earlier)
