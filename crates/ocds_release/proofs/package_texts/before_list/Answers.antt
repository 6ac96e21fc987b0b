use Rattle.ocds_release.proofs.Names.{◌≡◌, ◌∙◌, ◌++◌, ◌∷◌, [], ℕ, List, ap, true, false, Members, member, members_text, moment_text, tail_members}
use Rattle.ocds_release.specs.Inside.Splicing.{head_members}
use Rattle.ocds_release.proofs.PackageTexts.{opened}
use Rattle.ocds_release.proofs.package_texts.before_list.Goals as goal

pub returns : goal.returns
returns c notice route items d list =
    let publisher = c.args.publisher.now in
    let start = c.push.new.self.items in
    let head = c.push_head.new.text.items in
    let tail = tail_members publisher notice route in
    let members : Members = head_members publisher (moment_text c.args.published) (member c.args.name.now d tail) in
    let opens : start ≡ 123 ∷ [] = c.in_ok-push.ensures.items ∙ ap (λ (xs : List ℕ). xs ++ 123 ∷ []) c.new-text.ensures.items in
    opened c.push_member.new.text.items head true c.args.name.now d items tail c.in_ok-push_member.ensures list
    ∙ c.in_ok-push_head.ensures (member c.args.name.now d tail)
    ∙ ap (λ (xs : List ℕ). xs ++ members_text false members) opens
