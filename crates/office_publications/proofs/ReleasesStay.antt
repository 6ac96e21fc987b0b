-- Releases that can be merged, and their bodies.
use Rattle.office_publications.proofs.Names.{Bool, true, false, cond, [], ◌∷◌, All, unwrap_or, sym, ap, subst, All-append, All-from_recursion, All-map, All-weaker, null, body_of, IsStorable, same_id, releases_of_notice, ReleaseRow, CanBeMerged, body_in, ReleasesStay, BodiesAreStorable}

one_more : (r : ReleaseRow) → CanBeMerged r → (b : Bool) → All CanBeMerged (cond b (r ∷ []) [])
one_more r can true = All-from_recursion CanBeMerged (r ∷ []) (can, tt)
one_more r can false = All-from_recursion CanBeMerged [] tt

pub releases_stay : ReleasesStay
releases_stay s t r c put can all notice =
    subst (All CanBeMerged) (sym (put.releases notice))
    (All-append CanBeMerged (releases_of_notice notice s) (cond (same_id r.notice notice) (r ∷ []) []) (all notice) (one_more r can (same_id r.notice notice)))

body_storable : (r : ReleaseRow) → CanBeMerged r → IsStorable (body_in r)
body_storable r can = subst IsStorable (sym (ap (λ o. body_of (unwrap_or o null)) can.reads)) can.storable

pub bodies_storable : BodiesAreStorable
bodies_storable t notice all =
    let rows = releases_of_notice notice t in
    All-map IsStorable body_in rows (All-weaker CanBeMerged (λ (r : ReleaseRow). IsStorable (body_in r)) body_storable rows (all notice))
