use Rattle.office_plans.proofs.Names.{◌≡◌, List, Option, Some, map, max, option_map, ◌∙◌, ap, sym, Sign, SignRows, state_with, tender_status_of, Event, TenderStatus, notice_of_award, award_at, AwardRow, LotRow, Contracted, sign_event, status_with, given_by}
use Rattle.ocds_release.specs.declared.event.Event.TheVariants as events
use Rattle.office_plans.proofs.Maybe.{if_ok}
use Rattle.office_plans.proofs.commands.sign.release.Goals as goal

pub returns-clause-looks : goal.returns-clause-looks
returns-clause-looks g c =
    let looked = c.in_ok-lots.ensures.0 in (
      looked.0,
      λ honest s held.
          let a = c.args in
          let row : AwardRow = a.award.now in
          let told : TenderStatus → Event =
          λ status. events.Sign (record { notice = row.notice; contract = row.award; lot = row.lot; price = row.price; status = status }) in
          let status : c.in_ok-status.status ≡ status_with s row.notice row.lot Contracted =
          c.in_ok-status.ensures.status ∙ ap (λ (lots : List LotRow). tender_status_of (map (state_with row.lot Contracted) lots)) (c.as_slice.ensures.value ∙ looked.1 honest s held) in
          if_ok c.make_release.result c.make_release.ensures.release
          (λ made holds number named are here.
          let found : award_at number s ≡ Some row = sym (ap (λ (rows : SignRows). rows.award) are) ∙ here in
          holds (given_by a.asking.now s (Sign number named))
          (ap (option_map (sign_event s)) found ∙ sym (ap (λ (st : TenderStatus). Some (told st)) status))
          (ap (option_map (λ (r : AwardRow). r.notice)) found)
          (ap (λ (rows : SignRows). rows.notice) are ∙ ap (λ (r : Option AwardRow). notice_of_award r s) found)
          (c.time-t.ensures ∙ ap (λ (rows : SignRows). max a.asking.now.moment rows.clock.moment) are)),
    )
