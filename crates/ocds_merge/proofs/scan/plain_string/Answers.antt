use Rattle.ocds_merge.proofs.Names.{◌≡◌, ◌++◌, ◌∷◌, ◌∙◌, List, ℕ, sym, ap, subst, AllStandForThemselves}
use Rattle.ocds_merge.proofs.scan.plain_string.Goals as goal

pub returns : goal.returns
returns c =
    let p = c.after_plain-end.ensures.passes in
    let rest = c.in_ok-rest.rest.now in
    let is : c.span_before.result.now ≡ p.0 = c.span_before.ensures p.0 p.1 in (
      p.1 ∙ ap (λ (t : List ℕ). p.0 ++ t) c.in_ok-rest.ensures ∙ ap (λ (t : List ℕ). t ++ 34 ∷ rest) (sym is),
      subst AllStandForThemselves (sym is) p.2,
    )
