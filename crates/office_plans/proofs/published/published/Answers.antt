use Rattle.office_plans.proofs.Names.{◌-◌, ◌+◌, sym, subst, ap, ◌∙◌, ocid_text, Tables, KeepsReleasesOf, has_last_release, has_release, AreSoMany, HasMerge, IsKept}
use Rattle.office_plans.proofs.ReleaseJoins.{follows, is_planned}
use Rattle.office_plans.proofs.published.published.Goals as goal

pub returns : goal.returns
returns g c =
    let r = c.args.released in
    let publisher = c.args.publisher.now in
    let p = c.in_ok-publication.publication in
    let kept = c.in_ok-publication.ensures.kept in (
      kept.0,
      λ honest s held x at given allowed whole is told released.
          let behind = c.in_ok-publication.ensures.follows.1 honest s held in
          let new = c.in_ok-publication.ensures.next.1 honest s held in
          let onto = c.in_ok-publication.ensures.goes_on.1 honest s held in
          let many = c.in_ok-publication.ensures.counted.1 honest s held in
          is_planned publisher x r p released given allowed whole
          (follows publisher x r released (ap (λ (u : Tables). has_last_release r.notice (r.seq - 1) u) at ∙ behind) (ap (λ (u : Tables). has_release r.notice (r.seq - 1 + 1) u) at ∙ new) (subst (λ (u : Tables). HasMerge (ocid_text publisher.prefix r.notice) r.notice u) (sym at) onto)
          (subst (λ (u : Tables). AreSoMany r.notice (r.seq - 1) u) (sym at) many)) c.args.puts.items c.args.text.items is told
          (λ keeps. subst (λ (u : Tables). IsKept u r p) (sym at)
          (kept.1 honest s held released.storable (subst (KeepsReleasesOf r.notice) at (keeps r.notice released.for_notice))))
          (c.in_ok-publication.ensures.row released.storable)
          c.with_publication.result c.with_publication.ensures.puts c.with_publication.ensures.reply c.with_publication.ensures.none,
    )
