use Rattle.office_plans.proofs.Names.{◌≡◌, ℕ, List, Some, max, ◌∙◌, ap, refl, sym, Publish, NewLot, NewNotice, Event, given_by, PublishRows}
use Rattle.ocds_release.specs.declared.event.Event.TheVariants as events
use Rattle.office_plans.proofs.Maybe.{if_ok}
use Rattle.office_plans.proofs.commands.publish.release.Goals as goal

pub returns-clause-release : goal.returns-clause-release
returns-clause-release c =
    let a = c.args in
    let new : NewNotice = a.content.now in
    let told : List ℕ → List NewLot → Event = λ title lots. events.Publish (record {
      notice = a.notice;
      title = title;
      deadline = new.deadline;
      criteria = new.criteria;
      lots = lots;
    }) in
    let lots : c.in-Some.lots ≡ new.lots = c.in-Some.ensures.found ∙ c.as_slice.ensures.value in
    let event : Some (told c.of-title.result c.in-Some.lots) ≡ Some (told new.title new.lots) = λ i. Some (told (c.of-title.ensures i) (lots i)) in
    if_ok c.make_release.result c.make_release.ensures.release
    (λ made holds s are.
    holds (given_by a.asking.now s (Publish a.notice new)) (sym event) refl (ap (λ (rows : PublishRows). rows.notice) are)
    (c.time-t.ensures ∙ ap (λ (rows : PublishRows). max a.asking.now.moment rows.clock.moment) are))
