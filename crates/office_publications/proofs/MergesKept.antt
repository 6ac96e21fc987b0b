-- Stored merges are still those of their notices' releases after a release is published.
use Rattle.office_publications.proofs.Names.{◌≡◌, ℕ, Bool, true, false, cond, List, [], ◌∷◌, ◌++◌, map, Some, refl, sym, ◌∙◌, ap, subst, map-append, eq_by_cmp, nat_list_cmp_total, KeepsMerge, id_cmp, same_id, Tables, compiled_at, compiled_key, find_compiled, releases_of_notice, CompiledRow, ReleaseRow, ids_exact, equal_keys, same_itself, same_id_is, row_at-row_put, AreMerged, IsPublished, MergesStay, bodies, body_in}

ends : {X : Type 0} (ys : List X) → ys ++ [] ≡ ys
ends [] = refl
ends (y ∷ ys) = ap (λ zs. y ∷ zs) (ends ys)

module _ (s t : Tables) (r : ReleaseRow) (c : CompiledRow) (put : IsPublished s t r c) (merged : AreMerged s) where
  found : (n : List ℕ) → compiled_at n t ≡ cond (eq_by_cmp id_cmp n c.notice) (Some c) (compiled_at n s)
  found n = ap (λ rows. find_compiled rows n) put.compiled ∙ row_at-row_put nat_list_cmp_total compiled_key s.compiled c n

  bodies_are : (n : List ℕ) (b : Bool) → same_id r.notice n ≡ b → bodies n t ≡ bodies n s ++ map body_in (cond b (r ∷ []) [])
  bodies_are n b e =
      ap (map body_in) (put.releases n) ∙ map-append body_in (releases_of_notice n s) (cond (same_id r.notice n) (r ∷ []) [])
      ∙ ap (λ b. bodies n s ++ map body_in (cond b (r ∷ []) [])) e

  here : (n : List ℕ) → n ≡ c.notice → KeepsMerge c.text (bodies n t)
  here n e =
      let same : r.notice ≡ n = sym put.merge.of_notice ∙ sym e in
      let own : same_id r.notice n ≡ true = ap (λ m. same_id m n) same ∙ same_itself n in
      let all : bodies r.notice s ++ (body_in r ∷ []) ≡ bodies n t = ap (λ m. bodies m s ++ (body_in r ∷ [])) same ∙ sym (bodies_are n true own) in
      subst (KeepsMerge c.text) all put.merge.keeps

  apart : (n : List ℕ) → eq_by_cmp id_cmp n c.notice ≡ false → bodies n s ≡ bodies n t
  apart n e =
      let own : same_id r.notice n ≡ false = same_id_is r.notice n ∙ ap (λ m. eq_by_cmp id_cmp n m) (sym put.merge.of_notice) ∙ e in
      sym (bodies_are n false own ∙ ends (bodies n s))

  by : (n : List ℕ) (d : CompiledRow) (b : Bool) → eq_by_cmp id_cmp n c.notice ≡ b → cond b (Some c) (compiled_at n s) ≡ Some d → KeepsMerge d.text (bodies n t)
  by n d true e is =
      let same : c ≡ d = cc in
      subst (λ (d : CompiledRow). KeepsMerge d.text (bodies n t)) same (here n (equal_keys ids_exact n c.notice e))
  by n d false e is = subst (KeepsMerge d.text) (apart n e) (merged n d is)

  all_merged : AreMerged t
  all_merged n d at = by n d (eq_by_cmp id_cmp n c.notice) refl (sym (found n) ∙ at)

pub merges_stay : MergesStay
merges_stay s t r c put merged = all_merged s t r c put merged
