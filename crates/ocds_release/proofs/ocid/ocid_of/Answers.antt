use Rattle.ocds_release.proofs.Names.{◌≡◌, ◌∙◌, ℕ, List, ◌∷◌, ◌++◌, sym, subst, append-nil, IfOk, string_bytes, ocid_text}
use Rattle.ocds_release.proofs.ocid.ocid_of.Goals as goal

pub returns : goal.returns
returns c =
    let prefix = c.args.publisher.now.prefix in
    let notice = c.args.notice.now in
    let same : c.as_str.result.now ++ 45 ∷ c.as_str-2.result.now ≡ ocid_text prefix notice =
    λ i. c.as_str.ensures.value i ++ 45 ∷ (c.as_str-2.ensures ∙ sym (append-nil notice)) i in
    subst (λ (l : List ℕ). IfOk c.dashed.result (λ text. string_bytes text ≡ l)) same c.dashed.ensures
