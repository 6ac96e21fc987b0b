use Rattle.ocds_release.proofs.Names.{◌≡◌, ◌<◌, ◌∙◌, ◌++◌, ◌==◌, ℕ, List, ap, sym, length, codes, true, false, Data, Members, member, view, members_text, has_float, moment_text, text, texts}
use Rattle.ocds_release.proofs.PackageTexts.{pushed, lines_no_float, empty_none, empty_some, extensions_none, extensions_some}
use Rattle.ocds_release.proofs.package_texts.push_first.Goals as goal

pub returns-then-is_empty : goal.returns-then-is_empty
returns-then-is_empty c ms =
    let ls = c.args.publisher.now.extensions in
    let old = c.args.text.now.items in
    let date = text (moment_text c.args.published) in
    let slice : c.as_slice.result.now ≡ ls = c.as_slice.ensures.value in
    let empty : c.is_empty.result ≡ (length c.as_slice.result.now == 0) = c.is_empty.ensures in
    let none : length ls ≡ 0 = ap length (sym slice) ∙ empty_none (length c.as_slice.result.now) (sym empty ∙ c.if-is_empty.true) in
    pushed c.push_part.new.text.items old false (codes "publishedDate") date ms c.in_ok-push_part.ensures
    ∙ ap (λ (m : Members). old ++ members_text false m) (sym (extensions_none ls (member (codes "publishedDate") date ms) none))

pub returns : goal.returns
returns c ms =
    let ls = c.args.publisher.now.extensions in
    let old = c.args.text.now.items in
    let first = c.push_value.new.text.items in
    let date = text (moment_text c.args.published) in
    let dated = member (codes "publishedDate") date ms in
    let value = view c.in_ok-extensions.extensions in
    let slice : c.as_slice.result.now ≡ ls = c.as_slice.ensures.value in
    let empty : c.is_empty.result ≡ (length c.as_slice.result.now == 0) = c.is_empty.ensures in
    let some : 0 < length ls = empty_some (length ls) (ap (λ (xs : List (List ℕ)). length xs == 0) (sym slice) ∙ sym empty ∙ c.if-is_empty.false) in
    let named : value ≡ texts ls = c.in_ok-extensions.ensures in
    let whole : has_float value ≡ false = ap has_float named ∙ lines_no_float ls in
    pushed c.push_part-2.new.text.items first true (codes "publishedDate") date ms c.in_ok-push_part-2.ensures
    ∙ pushed first old false (codes "extensions") value dated (c.in_ok-push_value.ensures whole)
    ∙ ap (λ (d : Data). old ++ members_text false (member (codes "extensions") d dated)) named
    ∙ ap (λ (m : Members). old ++ members_text false m) (sym (extensions_some ls dated some))
