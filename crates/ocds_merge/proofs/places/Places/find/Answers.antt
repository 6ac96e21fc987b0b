use Rattle.ocds_merge.proofs.Names.{◌≡◌, ◌∙◌, ℕ, List, map, sym, subst, Option, Data, view, IsPlaceOf, IsIndexOf, IndexServes, place_in}
use Rattle.ocds_merge.proofs.PlaceLaw.{stands}
use Rattle.ocds_merge.proofs.places.Places.find.Goals as goal

pub returns-in-Some : goal.returns-in-Some
returns-in-Some c =
    let id = c.args.id.now in
    let ds : List Data = map view c.args.items.now in
    let index : IsIndexOf c.in-Some.by_id ds = subst (λ kept. IndexServes kept ds) c.in-Some.is c.requires in
    let is : c.copied.result ≡ place_in id ds = c.copied.ensures ∙ c.get.ensures.value ∙ index id in
    subst (λ (o : Option ℕ). IsPlaceOf o id ds) (sym is) (stands id ds)
