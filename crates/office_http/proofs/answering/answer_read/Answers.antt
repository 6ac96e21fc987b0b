use Rattle.office_http.proofs.Names.{◌≡◌, ℕ, None, sym, subst, inl, inr, Settings, IsReached, Answered, CanBeMeant, meant, meant_asked, HasRisen, NeedsMeant, ShowsMeant}
use Rattle.office_http.proofs.LeftSteps.{stops_then}
use Rattle.office_http.proofs.CertainSteps.{Certain, certain_asked, certain_nobody, certain_route}
use Rattle.office_http.proofs.AlwaysTold.{Tells, tells_asked, tells_no_route, tells_nobody}
use Rattle.office_http.proofs.SightSteps.{sight_of_asker, sight_of_nobody, sight_of_route}
use Rattle.office_http.proofs.RequestSteps.{asked_answered, asked_gives, asked_shown, caller_refused, refused_shows, route_refused, tells_some}
use Rattle.office_http.proofs.answering.answer_read.Goals as goal

pub returns-in-Err-clause-answered : goal.returns-in-Err-clause-answered
returns-in-Err-clause-answered g c honest s held stands =
    let a = route_refused g.H.Lookups.meaning c.args.desk.now.settings c.args.desk.now.shelf c.args.desk.now.shelf s c.args.moment c.refuse.result c.args.request.now
    c.in-Err.refusal c.in-Err.method (sym c.in-Err.ensures) (inl c.refuse.ensures) (held, stands) (λ u left. left) in
    (a.0, a.1, a.2.0, a.2.1, a.3)

pub returns-in-Err-caller_of-clause-answered : goal.returns-in-Err-caller_of-clause-answered
returns-in-Err-caller_of-clause-answered g c honest s held stands =
    let a = caller_refused g.H.Lookups.meaning c.args.desk.now.settings c.args.desk.now.shelf c.caller_of.new.desk.shelf s c.args.moment c.refuse-in-Err-caller_of.result c.args.request.now
    c.in-Ok.route c.in-Err-caller_of.refusal (sym c.in-Ok.ensures) (c.in-Err-caller_of.ensures.looks.1 honest s held) (inl c.refuse-in-Err-caller_of.ensures)
    (c.caller_of.ensures.looks.0.same honest s held, stands) (c.caller_of.ensures.looks.0.stop honest) in
    (a.0, a.1, a.2.0, a.2.1, a.3)

pub returns-clause-answered : goal.returns-clause-answered
returns-clause-answered g c honest s held stands =
    let before = c.answer_asked.ensures.before honest in
    let m = meant_asked c.in-Ok-caller_of.caller c.command_of-asked.result in
    let family : Settings → Type 0 = λ u. IsReached u.publisher s → CanBeMeant s m
    → Answered g.H.Lookups.meaning u c.caller_of.new.desk.shelf c.answer_asked.new.desk.shelf s c.args.moment m c.answer_asked.result in
    let answered = subst family c.caller_of.ensures.settings (c.answer_asked.ensures.answered honest s (c.caller_of.ensures.looks.0.same before s held)) stands in
    let a = asked_answered g.H.Lookups.meaning c.args.desk.now.settings c.caller_of.new.desk.shelf c.answer_asked.new.desk.shelf s c.args.moment c.answer_asked.result c.args.request.now
    c.in-Ok.route c.in-Ok-caller_of.caller c.command_of-asked.result (sym c.in-Ok.ensures)
    (c.in-Ok-caller_of.ensures.looks.1 before s held) c.command_of-asked.ensures.asked c.command_of-asked.ensures.given answered in (
      a.0,
      a.1,
      a.2.0,
      a.2.1,
      stops_then g.H.Lookups.meaning c.args.desk.now.settings c.args.desk.now.shelf c.caller_of.new.desk.shelf c.answer_asked.new.desk.shelf a.0 s c.args.moment
          (meant c.args.desk.now.settings c.args.request.now s) (c.caller_of.ensures.looks.0.stop before) a.3,
    )

pub returns-in-Err-clause-shown : goal.returns-in-Err-clause-shown
returns-in-Err-clause-shown g c honest s held =
    refused_shows c.args.desk.now.settings.publisher (meant c.args.desk.now.settings c.args.request.now s) s c.refuse.result (tells_some c.in-Err.refusal c.in-Err.method c.refuse.result (inl c.refuse.ensures))

pub returns-in-Err-caller_of-clause-shown : goal.returns-in-Err-caller_of-clause-shown
returns-in-Err-caller_of-clause-shown g c honest s held =
    refused_shows c.args.desk.now.settings.publisher (meant c.args.desk.now.settings c.args.request.now s) s c.refuse-in-Err-caller_of.result
    (tells_some c.in-Err-caller_of.refusal None c.refuse-in-Err-caller_of.result (inl c.refuse-in-Err-caller_of.ensures))

pub returns-clause-shown : goal.returns-clause-shown
returns-clause-shown g c honest s held =
    let before = c.answer_asked.ensures.before honest in
    let family : Settings → Type 0 = λ u. ShowsMeant u.publisher (meant_asked c.in-Ok-caller_of.caller c.command_of-asked.result) s c.answer_asked.result in
    asked_shown c.args.desk.now.settings s c.answer_asked.result c.args.request.now c.in-Ok.route c.in-Ok-caller_of.caller c.command_of-asked.result (sym c.in-Ok.ensures)
    (c.in-Ok-caller_of.ensures.looks.1 before s held) c.command_of-asked.ensures.asked
    (subst family c.caller_of.ensures.settings (c.answer_asked.ensures.shown honest s (c.caller_of.ensures.looks.0.same before s held)))

pub returns-clause-changes : goal.returns-clause-changes
returns-clause-changes g c honest s held =
    let before = c.answer_asked.ensures.before honest in
    elim (c.answer_asked.ensures.changes honest s (c.caller_of.ensures.looks.0.same before s held)) [
      | inl same ↦ inl same
      | inr (gives, shown) ↦
          inr (
            asked_gives c.args.desk.now.settings s c.answer_asked.result c.args.request.now c.in-Ok.route c.in-Ok-caller_of.caller c.command_of-asked.result (sym c.in-Ok.ensures)
                (c.in-Ok-caller_of.ensures.looks.1 before s held) c.command_of-asked.ensures.asked gives,
            shown,
          )
    ]

pub returns-in-Err-clause-sight : goal.returns-in-Err-clause-sight
returns-in-Err-clause-sight g c why at_sight =
    sight_of_route c.args.desk.now.settings c.args.request.now c.refuse.result why at_sight c.in-Err.refusal c.in-Err.method (sym c.in-Err.ensures) c.refuse.ensures

pub returns-in-Err-caller_of-clause-sight : goal.returns-in-Err-caller_of-clause-sight
returns-in-Err-caller_of-clause-sight g c why at_sight =
    sight_of_nobody c.args.desk.now.settings c.args.request.now c.refuse-in-Err-caller_of.result why at_sight c.in-Ok.route c.in-Err-caller_of.refusal (sym c.in-Ok.ensures)
    c.in-Err-caller_of.ensures.sight c.refuse-in-Err-caller_of.ensures

pub returns-clause-sight : goal.returns-clause-sight
returns-clause-sight g c why at_sight =
    sight_of_asker c.args.desk.now.settings c.args.request.now c.answer_asked.result why at_sight c.in-Ok.route c.in-Ok-caller_of.caller c.command_of-asked.result (sym c.in-Ok.ensures)
    c.in-Ok-caller_of.ensures.sight c.command_of-asked.ensures.forbidden c.answer_asked.ensures.refused

pub returns-in-Err-clause-told : goal.returns-in-Err-clause-told
returns-in-Err-clause-told g c honest s held needs =
    tells_no_route c.args.desk.now.settings s c.args.moment c.refuse.result (g.H.Lookups.meaning.holds c.args.desk.now.shelf) c.args.request.now c.in-Err.refusal c.in-Err.method (sym c.in-Err.ensures) c.refuse.ensures held

pub returns-in-Err-caller_of-clause-told : goal.returns-in-Err-caller_of-clause-told
returns-in-Err-caller_of-clause-told g c honest s held needs =
    tells_nobody c.args.desk.now.settings s c.args.moment c.refuse-in-Err-caller_of.result (g.H.Lookups.meaning.holds c.caller_of.new.desk.shelf) c.args.request.now c.in-Ok.route c.in-Err-caller_of.refusal (sym c.in-Ok.ensures)
    (c.in-Err-caller_of.ensures.looks.1 honest s held) c.refuse-in-Err-caller_of.ensures (c.caller_of.ensures.looks.0.same honest s held)

pub returns-clause-told : goal.returns-clause-told
returns-clause-told g c honest s held needs =
    let before = c.answer_asked.ensures.before honest in
    let m = meant_asked c.in-Ok-caller_of.caller c.command_of-asked.result in
    let holds = g.H.Lookups.meaning.holds c.answer_asked.new.desk.shelf in
    let family : Settings → Type 0 = λ u. NeedsMeant u s m → Tells u s c.args.moment c.answer_asked.result holds m in
    tells_asked c.args.desk.now.settings s c.args.moment c.answer_asked.result holds c.args.request.now c.in-Ok.route c.in-Ok-caller_of.caller c.command_of-asked.result (sym c.in-Ok.ensures)
    (c.in-Ok-caller_of.ensures.looks.1 before s held) c.command_of-asked.ensures.asked needs
    (subst family c.caller_of.ensures.settings (c.answer_asked.ensures.told honest s (c.caller_of.ensures.looks.0.same before s held)))

pub returns-in-Err-clause-certain : goal.returns-in-Err-clause-certain
returns-in-Err-clause-certain g c honest s held found =
    certain_route c.args.desk.now.settings s c.args.moment c.refuse.result _ c.args.request.now c.in-Err.refusal c.in-Err.method (sym c.in-Err.ensures) c.refuse.ensures

pub returns-in-Err-caller_of-clause-certain : goal.returns-in-Err-caller_of-clause-certain
returns-in-Err-caller_of-clause-certain g c honest s held found =
    certain_nobody c.args.desk.now.settings s c.args.moment c.refuse-in-Err-caller_of.result _ c.args.request.now c.in-Ok.route c.in-Err-caller_of.refusal (sym c.in-Ok.ensures)
    (c.in-Err-caller_of.ensures.looks.1 honest s held) c.in-Err-caller_of.ensures.risen c.refuse-in-Err-caller_of.ensures

pub returns-clause-certain : goal.returns-clause-certain
returns-clause-certain g c honest s held found =
    let M = g.H.Lookups.meaning in
    let before = c.answer_asked.ensures.before honest in
    let family : ℕ → Type 0 = λ n. Certain c.args.desk.now.settings s c.args.moment c.answer_asked.result (HasRisen n (M.fault_count c.answer_asked.new.desk.shelf)) c.args.request.now
    (meant_asked c.in-Ok-caller_of.caller c.command_of-asked.result) in
    let certain = subst family c.in-Ok-caller_of.ensures.counted (c.answer_asked.ensures.certain honest s (c.caller_of.ensures.looks.0.same before s held)) in
    certain_asked c.args.desk.now.settings s c.args.moment c.answer_asked.result _ c.args.request.now c.in-Ok.route c.in-Ok-caller_of.caller c.command_of-asked.result (sym c.in-Ok.ensures)
    (c.in-Ok-caller_of.ensures.looks.1 before s held)
    c.command_of-asked.ensures.at_once c.command_of-asked.ensures.forbidden found certain
