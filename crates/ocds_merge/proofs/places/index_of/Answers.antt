use Rattle.ocds_merge.proofs.Names.{◌≡◌, ◌∙◌, ◌+◌, ◌∷◌, ◌++◌, [], ap, sym, subst, map, take, length, arith, is_some, ℕ, List, Some, cond, bytes_eq, take_more, map-append, length-map, length-take-le, get_by_text, Data, view, Value, id_of, IsIndexOf, place_in}
use Rattle.ocds_merge.proofs.PlaceLaw.{lacks_from, index_push, index_known}
use Rattle.ocds_merge.proofs.places.index_of.Goals as goal
use Rattle.ocds_merge.proofs.places.index_of.Goals.{then-not-contains_key+in_ok-put_place, else-not-contains_key}

pub loop-place-preserved : goal.loop-place-preserved
loop-place-preserved c =
    let p = c.loop-place.place in
    let xs = c.args.items.now in
    let x = c.index-items-place.result in
    let d = view x in
    let ds : List Data = map view (take p xs) in
    let before = c.loop-place.by_id in
    let holds = c.loop-place.invariant in
    let next : take (p + 1) xs ≡ take p xs ++ x ∷ [] = take_more xs p x (omega arith) ∙ ap (λ (y : Value). take p xs ++ y ∷ []) (sym c.index-items-place.is) in
    let more : map view (take (p + 1) xs) ≡ ds ++ d ∷ [] = ap (map view) next ∙ map-append view (take p xs) (x ∷ []) in
    let found : c.contains_key.result ≡ is_some (place_in (id_of d) ds) =
    c.contains_key.ensures ∙ ap is_some (holds c.id_of-id.result.now) ∙ ap (λ (i : List ℕ). is_some (place_in i ds)) c.id_of-id.ensures in
    let len : length ds ≡ p = length-map (take p xs) view ∙ length-take-le p xs (omega arith) in
    subst (λ (es : List Data). IsIndexOf c.if-not-contains_key.by_id es) (sym more)
    (elim c.if-not-contains_key.branch [
      | then-not-contains_key+in_ok-put_place w ↦
          subst (λ m. IsIndexOf m (ds ++ d ∷ [])) (sym w.by_id-is)
          (index_push before w.put_place.new.by_id ds d holds (lacks_from (id_of d) ds (sym found ∙ w.if-not-contains_key.true))
          (λ i. w.in_ok-put_place.ensures i
          ∙ ap (λ (j : List ℕ). cond (bytes_eq j i) (Some p) (get_by_text before i)) c.id_of-id.ensures
          ∙ ap (λ (n : ℕ). cond (bytes_eq (id_of d) i) (Some n) (get_by_text before i)) (sym len)))
      | else-not-contains_key w ↦
          subst (λ m. IsIndexOf m (ds ++ d ∷ [])) (sym w.by_id-is) (index_known before ds d holds (sym found ∙ w.if-not-contains_key.false))
    ])
