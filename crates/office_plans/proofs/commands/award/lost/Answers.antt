use Rattle.office_plans.proofs.Names.{◌≡◌, List, None, Option, Some, map, max, refl, ◌∙◌, ap, sym, Award, winner, AwardRows, state_with, tender_status_of, Event, TenderStatus, EnvelopeRow, LotRow, Unsuccessful, award_event, status_with, given_by, awarded_rows}
use Rattle.ocds_release.specs.declared.event.Event.TheVariants as events
use Rattle.office_plans.proofs.Maybe.{if_ok}
use Rattle.office_plans.proofs.commands.award.lost.Goals as goal

pub returns-clause-looks : goal.returns-clause-looks
returns-clause-looks g c =
    let looked = c.in_ok-lots.ensures.0 in (
      looked.0,
      λ honest s held.
          let a = c.args in
          let told : TenderStatus → Event = λ status. events.NoAward (record { notice = a.notice; lot = a.lot; status = status }) in
          let status : c.in_ok-status.status ≡ status_with s a.notice a.lot Unsuccessful =
          c.in_ok-status.ensures.status ∙ ap (λ (lots : List LotRow). tender_status_of (map (state_with a.lot Unsuccessful) lots)) (c.as_slice.ensures.value ∙ looked.1 honest s held) in
          if_ok c.make_release.result c.make_release.ensures.release
          (λ made holds are here.
          let lost : None ≡ winner (awarded_rows s a.notice a.lot).notice (awarded_rows s a.notice a.lot).envelopes =
          here ∙ ap (λ (rows : AwardRows). winner rows.notice rows.envelopes) are in
          holds (given_by a.asking.now s (Award a.notice a.lot))
          (ap (λ (w : Option EnvelopeRow). Some (award_event s a.notice a.lot w)) (sym lost) ∙ sym (ap (λ (st : TenderStatus). Some (told st)) status))
          refl
          (ap (λ (rows : AwardRows). rows.notice) are)
          (c.time-t.ensures ∙ ap (λ (rows : AwardRows). max a.asking.now.moment rows.clock.moment) are)),
    )
