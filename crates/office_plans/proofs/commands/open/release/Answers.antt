use Rattle.office_plans.proofs.Names.{◌≡◌, List, Some, filter, map, max, ◌∙◌, ap, refl, sym, Open, tenderer_shown, Event, envelopes_of_notice, TendererRow, has_sealed, open_event, given_by, OpenRows}
use Rattle.ocds_release.specs.Tenderers.{Tenderer}
use Rattle.ocds_release.specs.declared.event.Event.TheVariants as events
use Rattle.office_plans.proofs.Maybe.{if_ok}
use Rattle.office_plans.proofs.commands.open.release.Goals as goal

pub returns-clause-looks : goal.returns-clause-looks
returns-clause-looks g c =
    let looked = c.in_ok-found.ensures.looks in (
      looked.0,
      λ honest s held.
          let a = c.args in
          let told : List Tenderer → Event = λ tenderers. events.Open (record { notice = a.notice; tenderers = tenderers }) in
          if_ok c.make_release.result c.make_release.ensures.release
          (λ made holds are read.
          let named : c.as_slice.result.now ≡ filter (has_sealed (envelopes_of_notice a.notice s)) s.tenderers = c.as_slice.ensures ∙ looked.1 honest s held a.notice read in
          let event : Some (told c.of-tenderers.result) ≡ Some (open_event a.notice (envelopes_of_notice a.notice s) s.tenderers) =
          ap (λ ts. Some (told ts)) (c.of-tenderers.ensures ∙ ap (λ (rows : List TendererRow). map tenderer_shown rows) named) in
          holds (given_by a.asking.now s (Open a.notice)) (sym event) refl (ap (λ (rows : OpenRows). rows.notice) are)
          (c.time-t.ensures ∙ ap (λ (rows : OpenRows). max a.asking.now.moment rows.clock.moment) are)),
    )
