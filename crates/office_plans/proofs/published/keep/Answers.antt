use Rattle.office_plans.proofs.Names.{◌≡◌, ℕ, List, Result, Ok, Err, IfOk, OnOk, subst, ◌∙◌, view, IsStorable, Refusal, Tables, KeepsReleasesOf, ReadsBack, merged_row, HasMerge, IsKeptOf, Kept, Publication, IsKept, as_row, Released}
use Rattle.office_plans.proofs.KeptObjects.{has_merge_on}
use Rattle.office_plans.proofs.published.keep.Goals as goal

-- A release that can be stored is kept as its row, with the merge that it joins.
is_kept : (r : Released) (s : Tables) (k : Kept) (kept : Result Publication Refusal) → IsStorable (view r.release) → IsKeptOf r.notice s k → KeepsReleasesOf r.notice s
    → IfOk kept (λ p. IsStorable (view r.release) → p.release ≡ as_row r)
    → IfOk kept (λ p. IsStorable (view r.release) → (s : Tables) → IsKeptOf r.notice s k → KeepsReleasesOf r.notice s → p.merge ≡ merged_row s p.release)
    → IfOk kept (λ p. IsStorable (view r.release) → (s : Tables) → IsKeptOf r.notice s k → KeepsReleasesOf r.notice s → ReadsBack s p.release)
    → IfOk kept (IsKept s r)
is_kept r s k (Ok p) storable loaded keeps release merge reads =
    record { release = release storable; merge = merge storable s loaded keeps; reads = reads storable s loaded keeps }
is_kept r s k (Err why) storable loaded keeps release merge reads = tt

pub returns-clause-kept : goal.returns-clause-kept
returns-clause-kept g c =
    let counted = c.in_ok-whole.ensures.all in
    let loaded = c.in_ok-kept.ensures.0 in (
      c.looks_follow.ensures _ _ _ counted.0 loaded.0,
      λ honest s held storable keeps.
          let here = counted.0.same (loaded.0.before honest) s held in
          is_kept c.args.released s _ c.keep_release.result storable (loaded.1 honest s here) keeps c.keep_release.ensures.release c.keep_release.ensures.merge
          c.keep_release.ensures.read,
    )

pub returns-clause-goes_on : goal.returns-clause-goes_on
returns-clause-goes_on g c =
    let counted = c.in_ok-whole.ensures.all in
    let loaded = c.in_ok-kept.ensures.0 in (
      c.looks_follow.ensures _ _ _ counted.0 loaded.0,
      λ honest s held.
          let here = counted.0.same (loaded.0.before honest) s held in
          subst (λ (o : List ℕ). OnOk c.keep_release.result (HasMerge o c.args.released.notice s)) (c.as_str.ensures.value ∙ c.in_ok-ocid.ensures)
          (has_merge_on c.as_str.result.now c.args.released.notice s _ c.keep_release.result (loaded.1 honest s here) c.keep_release.ensures.goes_on),
    )
