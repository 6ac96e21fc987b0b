use Rattle.ocds_release.proofs.Names.{◌≡◌, ◌∙◌, ◌++◌, ◌∷◌, [], ℕ, List, ap, sym, refl, codes, false, true, append_assoc, Data, object, no_members, no_items, member, items_of, compact_text, items_text, members_text, moment_text, last_date, text, array_of, address, ocid_text, package_of, record_of, ordered_record, tail_members, completed, spliced}
use Rattle.ocds_release.proofs.PackageTexts.{kept_list, kept_last, records_in_order, record_in_order}
use Rattle.ocds_release.proofs.package_texts.opened_record.Goals as goal

pub returns : goal.returns
returns c rows d ds release kept at_last shown is =
    let publisher = c.args.publisher.now in
    let notice = c.args.notice in
    let before = c.in_ok-before.before.items in
    let with_record = c.push_record.new.text.items in
    let route = codes "/record" in
    let tail : List ℕ = members_text true (tail_members publisher notice route) in
    let items : List ℕ = items_text false (items_of (d ∷ ds)) in
    let one = ordered_record publisher notice release (array_of (d ∷ ds)) in
    let at : moment_text c.args.published ≡ last_date (d ∷ ds) = ap moment_text (sym at_last) ∙ sym (kept_last rows d ds kept) in
    let whole : record_of publisher notice (d ∷ ds) release ≡ one =
    ap object (record_in_order (ocid_text publisher.prefix notice) release d (items_of ds) shown.filled) in
    ap (λ pack. completed pack rows) c.in_ok-package.ensures
    ∙ ap (λ (r : List ℕ). with_record ++ (spliced false rows ++ r)) c.in_ok-behind.ensures
    ∙ ap (λ (r : List ℕ). with_record ++ r) (sym (append_assoc (spliced false rows) (93 ∷ []) (125 ∷ 93 ∷ tail)) ∙ ap (λ (r : List ℕ). r ++ 125 ∷ 93 ∷ tail) (kept_list false rows (d ∷ ds) kept))
    ∙ c.in_ok-push_record.ensures items (93 ∷ tail) (array_of (d ∷ ds)) release refl is
    ∙ ap (λ (r : List ℕ). before ++ r) (sym (append_assoc (compact_text one) (93 ∷ []) tail))
    ∙ c.in_ok-before.ensures notice route (compact_text one ++ 93 ∷ []) (array_of (one ∷ [])) refl
    ∙ ap compact_text (sym (ap object (records_in_order publisher.extensions (moment_text c.args.published) (address publisher.base notice route) (codes "1.1")
    (member (codes "name") (text publisher.name) no_members) one no_items))
    ∙ ap (λ (p : List ℕ). package_of publisher notice p route (codes "records") (array_of (one ∷ []))) at
    ∙ ap (λ (r : Data). package_of publisher notice (last_date (d ∷ ds)) route (codes "records") (array_of (r ∷ []))) (sym whole))
