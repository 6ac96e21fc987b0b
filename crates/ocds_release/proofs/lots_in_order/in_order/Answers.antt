use Rattle.ocds_release.proofs.Names.{◌≡◌, ◌<◌, ◌≤◌, ◌+◌, ◌-◌, ◌∷◌, [], ◌∙◌, ap, sym, subst, map, take, drop, length, get_or, false, arith, List, ℕ, Bor, drop_more, length-map, is_lt, id_cmp, lot_id, NewLot, lots_in_order, insert_by_id, AreEarlier}
use Rattle.ocds_release.proofs.LotOrder.{insert_is, map_insert, ids_twice}
use Rattle.ocds_release.proofs.lots_in_order.in_order.Goals as goal

pub loop-left-preserved : goal.loop-left-preserved
loop-left-preserved c =
    let i = c.loop-left.left in
    let f : Bor NewLot → NewLot = λ r. r.now in
    let g : Bor NewLot → List ℕ = λ r. r.now.id in
    let rs = c.args.lots.now in
    let x = c.index-lots-left.result in
    let order = c.loop-left.order.items in
    let p = c.place_for-place.result in
    let slice : c.deref.result.now ≡ order = c.deref.ensures.value in
    let low : i - 1 < length rs = omega arith in
    let next : i - 1 + 1 ≡ i = omega arith in
    let rest : drop (i - 1) rs ≡ x ∷ drop i rs =
    drop_more rs (i - 1) x low ∙ ap (λ (d : NewLot). d ∷ drop (i - 1 + 1) rs) (sym c.index-lots-left.is) ∙ ap (λ (k : ℕ). x ∷ drop k rs) next in
    let within : p ≤ length (map f order) = omega (arith, c.place_for-place.ensures.within, ap length slice, length-map order f) in
    let before : AreEarlier x.id (take p (map lot_id (map f order))) =
    subst (λ (ids : List (List ℕ)). AreEarlier x.id (take p ids)) (ids_twice order) (subst (λ (xs : List (Bor NewLot)). AreEarlier x.id (take p (map g xs))) slice c.place_for-place.ensures.before) in
    let after : p < length (map f order) → is_lt (id_cmp (get_or (map lot_id (map f order)) p []) x.id) ≡ false =
    λ h. subst (λ (ids : List (List ℕ)). is_lt (id_cmp (get_or ids p []) x.id) ≡ false) (ids_twice order)
    (subst (λ (xs : List (Bor NewLot)). p < length xs → is_lt (id_cmp (get_or (map g xs) p []) x.id) ≡ false) slice c.place_for-place.ensures.after (omega (arith, h, length-map order f))) in
    record {
      within = omega arith;
      sorted = ap (map f) c.in_ok-insert.ensures.items ∙ map_insert f order p _ ∙ sym (insert_is x (map f order) p within before after)
          ∙ ap (insert_by_id x) c.loop-left.invariant.sorted ∙ sym (ap lots_in_order rest);
    }
