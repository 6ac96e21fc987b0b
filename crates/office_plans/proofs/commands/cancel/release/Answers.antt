use Rattle.office_plans.proofs.Names.{◌≡◌, ℕ, List, Some, filter, map, max, ◌∙◌, ap, refl, sym, Cancel, state_cancelled, tender_status_of, Event, TenderStatus, award_key, AwardRow, LotRow, cancel_event, lot_name, given_by, is_ended_award, is_open_lot, CancelRows}
use Rattle.ocds_release.specs.declared.event.Event.TheVariants as events
use Rattle.office_plans.proofs.Maybe.{if_ok}
use Rattle.office_plans.proofs.commands.cancel.release.Goals as goal

pub returns-clause-release : goal.returns-clause-release
returns-clause-release c =
    let a = c.args in
    let rows : CancelRows = a.rows.now in
    let told : List (List ℕ) → List ℕ → List ℕ → TenderStatus → Event = λ lots awards rationale status. events.Cancel (record {
      notice = a.notice;
      lots = lots;
      awards = awards;
      rationale = rationale;
      status = status;
    }) in
    let all : c.as_slice-lots.result.now ≡ rows.lots = c.as_slice-lots.ensures in
    let given : c.as_slice-awards.result.now ≡ rows.awards = c.as_slice-awards.ensures in
    let lots : c.of-lots.result ≡ map lot_name (filter is_open_lot rows.lots) =
    c.of-lots.ensures ∙ c.as_slice.ensures.value ∙ c.in_ok-open.ensures ∙ ap (λ (ls : List LotRow). map lot_name (filter is_open_lot ls)) all in
    let awards : c.of-awards.result ≡ map award_key (filter (is_ended_award rows.lots) rows.awards) =
    c.of-awards.ensures ∙ c.as_slice-2.ensures.value ∙ c.in_ok-ended.ensures
    ∙ ap (λ (ls : List LotRow). map award_key (filter (is_ended_award ls) c.as_slice-awards.result.now)) all
    ∙ ap (λ (rs : List AwardRow). map award_key (filter (is_ended_award rows.lots) rs)) given in
    let status : c.status_of-status.result ≡ tender_status_of (map state_cancelled rows.lots) =
    c.status_of-status.ensures ∙ ap tender_status_of (c.as_slice-3.ensures.value ∙ c.in_ok-states.ensures ∙ ap (map state_cancelled) all) in
    let event : Some (told c.of-lots.result c.of-awards.result c.of-rationale.result c.status_of-status.result) ≡ Some (cancel_event a.notice rows.lots rows.awards a.rationale.now) =
    λ i. Some (told (lots i) (awards i) (c.of-rationale.ensures i) (status i)) in
    if_ok c.make_release.result c.make_release.ensures.release
    (λ made holds s are.
    holds (given_by a.asking.now s (Cancel a.notice a.rationale.now))
    (sym (ap (λ (r : CancelRows). Some (cancel_event a.notice r.lots r.awards a.rationale.now)) are) ∙ sym event) refl
    (ap (λ (r : CancelRows). r.notice) are) (c.time-t.ensures ∙ ap (λ (r : CancelRows). max a.asking.now.moment r.clock.moment) are))
