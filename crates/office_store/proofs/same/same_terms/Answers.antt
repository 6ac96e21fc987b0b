use Rattle.office_store.proofs.Names.{◌≡◌, sym, ap₂, ◌∙◌, terms_in}
use Rattle.office_store.proofs.same.same_terms.Goals as goal

pub returns : goal.returns
returns c =
    let first : terms_in c.as_slice.result.now c.as_slice-2.result.now ≡ c.args.a.now = ap₂ terms_in c.as_slice.ensures c.as_slice-2.ensures ∙ c.a.view_is in
    let second : terms_in c.as_slice-3.result.now c.as_slice-4.result.now ≡ c.args.b.now = ap₂ terms_in c.as_slice-3.ensures c.as_slice-4.ensures ∙ c.b.view_is in
    (λ yes. sym first ∙ c.same_roots.ensures.0 yes ∙ second, λ same. c.same_roots.ensures.1 (first ∙ same ∙ sym second))
