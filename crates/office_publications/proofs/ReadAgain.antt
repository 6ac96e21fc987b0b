-- A stored release can be read again, and so can the merge that it joins.
use Rattle.office_publications.proofs.Names.{◌≡◌, ℕ, List, [], ◌∷◌, ◌++◌, All, unwrap_or, sym, subst, All-append, All-cons, All-map, All-nil, All-weaker, Data, null, body_of, IsStorable, KeepsMerge, Tables, releases_of_notice, CompiledRow, ReleaseRow, KeepsReleasesOf, ReadsBack, merged_row, AreReleasesOf, CanBeMerged, IsMerge, IsMergedOf, bodies, body_in}

body_storable : (r : ReleaseRow) → CanBeMerged r → IsStorable (body_in r)
body_storable r can = subst (λ o. IsStorable (body_of (unwrap_or o null))) (sym can.reads) can.storable

pub bodies_storable : (notice : List ℕ) (s : Tables) → AreReleasesOf notice s → All IsStorable (bodies notice s)
bodies_storable notice s all =
    All-map IsStorable body_in (releases_of_notice notice s)
    (All-weaker CanBeMerged (λ r. IsStorable (body_in r)) body_storable (releases_of_notice notice s) all)

module _ (s : Tables) (r : ReleaseRow) (row : CompiledRow) where
  abbrev all : List Data
  all = bodies r.notice s ++ (body_in r ∷ [])

  -- the merge that was made with this body is the merge with the release
  pub is_merge : KeepsReleasesOf r.notice s → CanBeMerged r → (body : Data) → body ≡ body_in r
      → (IsMergedOf r.notice s → All IsStorable (bodies r.notice s ++ (body ∷ [])) → IsMerge r.notice (bodies r.notice s ++ (body ∷ [])) row) → IsMerge r.notice all row
  is_merge keeps can body same made =
      let stored : IsStorable body = subst IsStorable (sym same) (body_storable r can) in
      let more =
      All-append IsStorable (bodies r.notice s) (body ∷ []) (bodies_storable r.notice s keeps.releases) (All-cons IsStorable body [] stored (All-nil IsStorable)) in
      subst (λ (d : Data). IsMerge r.notice (bodies r.notice s ++ (d ∷ [])) row) same (made keeps.merged more)

  pub is_merged_row : IsMerge r.notice all row → row ≡ merged_row s r
  is_merged_row m = λ i. record { notice = m.of_notice i; text = m.keeps.is i }

  pub reads_back : CanBeMerged r → IsMerge r.notice all row → ReadsBack s r
  reads_back can m = record { release = can; merge = subst (λ text. KeepsMerge text all) m.keeps.is m.keeps }
