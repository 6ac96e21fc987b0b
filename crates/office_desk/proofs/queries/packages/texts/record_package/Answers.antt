use Rattle.office_desk.proofs.Names.{◌≡◌, ◌<◌, ◌∙◌, List, length, Option, string_bytes, sym, ap, subst, ℕ, IfSome, Data, compact_text, with_head, merge_or_null, completed, moment_of_last, record_package, releases_of_notice, moment_text, bodies, compiled_told, releases_told, IsCompiled}
use Rattle.office_desk.proofs.Packaged.{filled}
use Rattle.office_desk.proofs.queries.packages.texts.record_package.Goals as goal

pub returns-in-Ok-clause-looks : goal.returns-in-Ok-clause-looks
returns-in-Ok-clause-looks g c = (
  c.load_compiled.ensures.looks.0,
  λ honest s held own stands extent.
      let notice = c.args.notice.now in
      let publisher = c.args.publisher.now in
      let rows = releases_of_notice notice s in
      let family : Option ℕ → Type 0 = λ o. IfSome o (λ moment. (0 < length rows) × (moment_of_last rows ≡ moment)) in
      let last = subst family c.in-Some.is extent.last in
      let told : IsCompiled publisher notice s = c.told.ensures.records publisher s stands notice last.0 extent.range in
      let release : string_bytes c.in_ok-release.release ≡ compact_text (compiled_told publisher notice s) =
      c.in_ok-release.ensures.looks.1 honest s held (stands.keeps.merged notice) (c.releases_can_be_merged.ensures.storable s notice stands.keeps.releases)
      ∙ (λ i. compact_text (with_head (own i) (moment_text (sym last.1 i)) (merge_or_null (bodies notice s))))
      ∙ ap compact_text (sym told.is) in
      filled (λ (ds : List Data). completed c.in-Ok.opened rows ≡ compact_text (record_package publisher notice ds (compiled_told publisher notice s))) rows
      (releases_told notice s) (c.told.ensures.releases publisher s stands notice) last.0
      (λ d ds kept. c.in-Ok.ensures rows d ds (compiled_told publisher notice s) kept last.1 told.has_text (c.as_str.ensures.value ∙ release)),
)
