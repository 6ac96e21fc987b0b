use Rattle.ocds_release.proofs.Names.{◌≡◌, ◌∙◌, ◌++◌, ℕ, List, [], ◌∷◌, ap, codes, true, false, Data, member, view, members_text, has_float, text, object_of, publisher_object}
use Rattle.ocds_release.proofs.PackageTexts.{pushed}
use Rattle.ocds_release.proofs.package_texts.push_head.Goals as goal

pub returns : goal.returns
returns c ms =
    let publisher = c.args.publisher.now in
    let first = c.push_first.new.text.items in
    let value = view c.in_ok-shown.shown in
    let named : value ≡ publisher_object publisher =
    c.in_ok-shown.ensures ∙ ap (λ (s : List ℕ). object_of ((codes "name", text s) ∷ [])) c.as_str.ensures.value in
    let whole : has_float value ≡ false = ap has_float named in
    pushed c.push_value.new.text.items first true (codes "publisher") value ms (c.in_ok-push_value.ensures whole)
    ∙ ap (λ (d : Data). first ++ members_text true (member (codes "publisher") d ms)) named
    ∙ c.in_ok-push_first.ensures (member (codes "publisher") (publisher_object publisher) ms)
