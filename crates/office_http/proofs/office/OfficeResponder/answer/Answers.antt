use Rattle.office_http.proofs.Names.{sym, subst, DeskOf, StandsWatched}
use Rattle.office_http.proofs.WatchedSteps.{answered_step}
use Rattle.office_http.proofs.office.OfficeResponder.answer.Goals as goal

pub returns-clause-step : goal.returns-clause-step
returns-clause-step g c honest w held =
    let M = g.H.Lookups.meaning in
    let now : DeskOf g.row.H.Denot = c.self.inside.desk in
    let here = subst (λ (d : DeskOf g.row.H.Denot). StandsWatched M d w) (sym c.self.view_is) held in
    answered_step M now c.answer_request.new.desk w _ c.answer_request.result honest c.answer_request.ensures.settings c.answer_request.ensures.answered c.answer_request.ensures.sight
    (c.answer_request.ensures.sound honest) here
