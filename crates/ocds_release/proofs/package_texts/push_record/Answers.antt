use Rattle.ocds_release.proofs.Names.{◌≡◌, ◌∙◌, ◌++◌, ◌∷◌, [], ℕ, List, ap, codes, true, false, member, no_members, compact_text, members_text, text, ocid_text, member_text}
use Rattle.ocds_release.proofs.PackageTexts.{opened, pushed, before_rest}
use Rattle.ocds_release.proofs.package_texts.push_record.Goals as goal

pub returns : goal.returns
returns c items rest d release list whole =
    let old = c.args.text.now.items in
    let start = c.push.new.self.items in
    let first = c.push_member.new.text.items in
    let second = c.push_part.new.text.items in
    let third = c.push_member-2.new.text.items in
    let ocid = text (ocid_text c.args.publisher.now.prefix c.args.notice) in
    let last = member (codes "releases") d no_members in
    let both = member (codes "ocid") ocid last in
    let is : first ≡ start ++ member_text false (codes "compiledRelease") (compact_text release) =
    c.in_ok-push_member.ensures ∙ ap (λ (bytes : List ℕ). start ++ member_text false (codes "compiledRelease") bytes) whole in
    let body : third ++ (items ++ 125 ∷ []) ≡ start ++ members_text false (member (codes "compiledRelease") release both) =
    opened third second true (codes "releases") d items no_members c.in_ok-push_member-2.ensures list
    ∙ pushed second first true (codes "ocid") ocid last c.in_ok-push_part.ensures
    ∙ pushed first start false (codes "compiledRelease") release both is in
    before_rest third items old start (members_text false (member (codes "compiledRelease") release both)) rest body c.in_ok-push.ensures.items
