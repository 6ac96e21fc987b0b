use Rattle.office_plans.proofs.Names.{◌≡◌, ℕ, ◌+◌, Option, Some, max, refl, ◌∙◌, ap, sym, Award, price_of, winner, AwardRows, Event, Party, tenderer_at, EnvelopeRow, TendererRow, award_event, name_in, given_by, awarded_rows}
use Rattle.ocds_release.specs.declared.event.Event.TheVariants as events
use Rattle.office_plans.proofs.Maybe.{if_ok}
use Rattle.office_plans.proofs.commands.award.won.Goals as goal

pub returns-clause-looks : goal.returns-clause-looks
returns-clause-looks g c =
    let looked = c.in_ok-tenderer.ensures.0 in (
      looked.0,
      λ honest s held.
          let a = c.args in
          let best : EnvelopeRow = a.best.now in
          let named : Option TendererRow → Party = λ t. record { id = best.tenderer; name = name_in t } in
          let party : c.in-Some.winner ≡ named (tenderer_at best.tenderer s) = c.in-Some.ensures.found ∙ ap named (looked.1 honest s held) in
          let told : ℕ → Party → ℕ → Event = λ n p price. events.Award (record { notice = a.notice; award = n; lot = a.lot; winner = p; price = price }) in
          if_ok c.make_release.result c.make_release.ensures.release
          (λ made holds are here.
          let number : c.in-Some-read.award ≡ s.clock.awards + 1 = c.in-Some-read.ensures.found ∙ ap (λ n. n + 1) (c.get.ensures.value ∙ ap (λ (rows : AwardRows). rows.clock.awards) are) in
          let won : Some best ≡ winner (awarded_rows s a.notice a.lot).notice (awarded_rows s a.notice a.lot).envelopes =
          here ∙ ap (λ (rows : AwardRows). winner rows.notice rows.envelopes) are in
          let event : Some (told c.in-Some-read.award c.in-Some.winner c.price_of.result)
          ≡ Some (told (s.clock.awards + 1) (named (tenderer_at best.tenderer s)) (price_of best)) =
          λ i. Some (told (number i) (party i) (c.price_of.ensures i)) in
          holds (given_by a.asking.now s (Award a.notice a.lot))
          (ap (λ (w : Option EnvelopeRow). Some (award_event s a.notice a.lot w)) (sym won) ∙ sym event)
          refl
          (ap (λ (rows : AwardRows). rows.notice) are)
          (c.time-t.ensures ∙ ap (λ (rows : AwardRows). max a.asking.now.moment rows.clock.moment) are)),
    )
