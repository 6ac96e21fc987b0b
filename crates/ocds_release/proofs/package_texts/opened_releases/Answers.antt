use Rattle.ocds_release.proofs.Names.{◌≡◌, ◌∙◌, ◌++◌, ◌∷◌, [], ℕ, List, ap, sym, refl, codes, true, false, append_assoc, object, no_members, member, items_of, compact_text, items_text, members_text, moment_text, last_date, text, array_of, address, package_of, tail_members, completed, spliced}
use Rattle.ocds_release.proofs.PackageTexts.{kept_list, kept_last, releases_in_order}
use Rattle.ocds_release.proofs.package_texts.opened_releases.Goals as goal

pub returns : goal.returns
returns c rows d ds kept at_last =
    let publisher = c.args.publisher.now in
    let notice = c.args.notice in
    let before = c.in_ok-before.before.items in
    let route = codes "/releases" in
    let tail : List ℕ = members_text true (tail_members publisher notice route) in
    let items : List ℕ = items_text false (items_of (d ∷ ds)) in
    let at : moment_text c.args.published ≡ last_date (d ∷ ds) = ap moment_text (sym at_last) ∙ sym (kept_last rows d ds kept) in
    ap (λ pack. completed pack rows) c.in_ok-package.ensures
    ∙ ap (λ (r : List ℕ). before ++ (spliced false rows ++ r)) c.in_ok-behind.ensures
    ∙ ap (λ (r : List ℕ). before ++ r) (sym (append_assoc (spliced false rows) (93 ∷ []) tail) ∙ ap (λ (r : List ℕ). r ++ tail) (kept_list false rows (d ∷ ds) kept))
    ∙ c.in_ok-before.ensures notice route items (array_of (d ∷ ds)) refl
    ∙ ap compact_text (sym (ap object (releases_in_order publisher.extensions (moment_text c.args.published) (address publisher.base notice route) (codes "1.1")
    (member (codes "name") (text publisher.name) no_members) d (items_of ds)))
    ∙ ap (λ (p : List ℕ). package_of publisher notice p route (codes "releases") (array_of (d ∷ ds))) at)
