use Rattle.office_desk.proofs.Names.{◌≡◌, ◌<◌, List, length, Option, subst, ℕ, IfSome, Data, compact_text, completed, moment_of_last, release_package, releases_of_notice, releases_told}
use Rattle.office_desk.proofs.Packaged.{filled}
use Rattle.office_desk.proofs.queries.packages.texts.releases_package.Goals as goal

pub returns-in-Ok-clause-text : goal.returns-in-Ok-clause-text
returns-in-Ok-clause-text c s stands extent =
    let notice = c.args.notice.now in
    let publisher = c.args.publisher.now in
    let rows = releases_of_notice notice s in
    let family : Option ℕ → Type 0 = λ o. IfSome o (λ moment. (0 < length rows) × (moment_of_last rows ≡ moment)) in
    let last = subst family c.in-Some.is extent.last in
    filled (λ (ds : List Data). completed c.in-Ok.opened rows ≡ compact_text (release_package publisher notice ds)) rows
    (releases_told notice s) (c.told.ensures.releases publisher s stands notice) last.0 (λ d ds kept. c.in-Ok.ensures rows d ds kept last.1)
