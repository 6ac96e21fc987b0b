use Rattle.office_plans.proofs.Names.{◌≡◌, ◌+◌, ◌∙◌, ap, subst, sym, view, IsStorable, notice_at, releases_in}
use Rattle.office_plans.proofs.NextRelease.{is_published}
use Rattle.office_plans.proofs.published.make_release.Goals as goal

pub returns-in-Ok-clause-release : goal.returns-in-Ok-clause-release
returns-in-Ok-clause-release c = λ x is for_notice row time.
    let a = c.args in
    let seq = c.in-Some.seq in
    let made = c.in-Ok.ensures in
    let number : seq ≡ releases_in (notice_at a.notice x.before) + 1 =
    c.in-Some.ensures.next ∙ ap (λ r. releases_in r + 1) row in
    record {
      is = is_published c.keeping.ensures.released a.publisher.now x a.event.now a.notice is for_notice seq a.t (view c.in-Ok.release) number time made;
      for_notice = for_notice;
      next = number;
      storable = subst IsStorable (sym made) (c.releases_can_be_kept.ensures.storable a.publisher.now seq a.t a.event.now);
    }
