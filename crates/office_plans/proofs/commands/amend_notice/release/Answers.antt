use Rattle.office_plans.proofs.Names.{◌≡◌, ℕ, List, Some, max, ◌∙◌, ap, refl, sym, AmendNotice, Event, notice_at, deadline_in, given_by, AmendNoticeRows}
use Rattle.ocds_release.specs.declared.event.Event.TheVariants as events
use Rattle.office_plans.proofs.Maybe.{if_ok}
use Rattle.office_plans.proofs.commands.amend_notice.release.Goals as goal

pub returns-clause-release : goal.returns-clause-release
returns-clause-release c =
    let a = c.args in
    let told : ℕ → List ℕ → Event = λ before rationale. events.Amend (record { notice = a.notice; before = before; after = a.deadline; rationale = rationale }) in
    if_ok c.make_release.result c.make_release.ensures.release
    (λ made holds s are.
    let row : a.rows.now.notice ≡ notice_at a.notice s = ap (λ (rows : AmendNoticeRows). rows.notice) are in
    let before : c.deadline_in-before.result ≡ deadline_in (notice_at a.notice s) = c.deadline_in-before.ensures ∙ ap deadline_in row in
    let event : Some (told c.deadline_in-before.result c.of-rationale.result) ≡ Some (told (deadline_in (notice_at a.notice s)) a.rationale.now) =
    λ i. Some (told (before i) (c.of-rationale.ensures i)) in
    holds (given_by a.asking.now s (AmendNotice a.notice a.deadline a.rationale.now)) (sym event) refl row
    (c.time-t.ensures ∙ ap (λ (rows : AmendNoticeRows). max a.asking.now.moment rows.clock.moment) are))
