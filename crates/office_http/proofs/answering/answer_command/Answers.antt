use Rattle.office_http.proofs.Names.{◌∙◌, ap, subst, ℕ, List, inl, inr, after_puts, Put, response_of, Json, Gives}
use Rattle.office_http.proofs.CertainSteps.{certain_command, nothing_certain}
use Rattle.office_http.proofs.AlwaysTold.{tells_done_command, tells_refused_command, tells_unavailable}
use Rattle.office_http.proofs.AnswerSteps.{command_done, command_refused, command_undone}
use Rattle.office_http.proofs.answering.answer_command.Goals as goal

pub returns-in-Err-clause-answered : goal.returns-in-Err-clause-answered
returns-in-Err-clause-answered g c honest s held stands can =
    command_refused g.H.Lookups.meaning c.args.desk.now.settings c.args.desk.now.shelf c.plan.new.self.shelf s c.args.moment c.refuse.result c.args.caller.now c.args.command
    c.in-Err.refusal (c.in-Err.ensures.looks.1 honest s held) (inl c.refuse.ensures) (c.plan.ensures.looks.0.same honest s held, stands) (c.plan.ensures.looks.0.stop honest)

pub returns-in-Ok-carry_out-clause-answered : goal.returns-in-Ok-carry_out-clause-answered
returns-in-Ok-carry_out-clause-answered g c honest s held stands can =
    let before = c.in-Ok-carry_out.ensures.alters.before honest in
    let looks = c.in-Ok.ensures.looks in
    let put = c.into_parts-puts.ensures.puts in
    command_done g.H.Lookups.meaning c.args.desk.now.settings c.args.desk.now.shelf c.carry_out.new.self.shelf s c.args.moment c.built.result c.keeping.ensures.reaches c.keeping.ensures.stays
    c.args.caller.now c.args.command c.in-Ok.planned (looks.1 before s held) can.1 stands
    (c.built.ensures ∙ c.in-Ok-accepted_response.ensures ∙ ap (λ (text : List ℕ). response_of (Json text)) c.into_parts-puts.ensures.reply)
    (subst (λ (ps : List Put). g.H.Lookups.meaning.holds c.carry_out.new.self.shelf (after_puts ps s)) put (c.in-Ok-carry_out.ensures.alters.all honest s (looks.0.same before s held)))
    (λ u left. c.in-Ok-carry_out.ensures.alters.stop_all honest s (looks.0.same before s held) u left ∙ ap (λ (ps : List Put). after_puts ps s) put)

pub returns-in-Ok-carry_out-clause-changes : goal.returns-in-Ok-carry_out-clause-changes
returns-in-Ok-carry_out-clause-changes g c honest s held =
    let plan = c.in-Ok.ensures.looks.1 (c.in-Ok-carry_out.ensures.alters.before honest) s held in
    inr ((plan.whole, c.in-Ok.ensures.moved (c.in-Ok-carry_out.ensures.alters.before honest) s held), (_, c.built.ensures ∙ c.in-Ok-accepted_response.ensures))

pub returns-in-Err-carry_out-clause-answered : goal.returns-in-Err-carry_out-clause-answered
returns-in-Err-carry_out-clause-answered g c honest s held stands can =
    let before = c.in-Err-carry_out.ensures.alters.before honest in
    let looks = c.in-Ok.ensures.looks in
    let here = looks.0.same before s held in
    command_undone g.H.Lookups.meaning c.args.desk.now.settings c.args.desk.now.shelf c.carry_out.new.self.shelf s c.args.moment c.constant-in-Err-carry_out.result
    c.keeping.ensures.reaches c.keeping.ensures.stays c.args.caller.now c.args.command c.in-Ok.planned (looks.1 before s held) can.1
    (c.constant-in-Err-carry_out.ensures ∙ c.unavailable-in-Err-carry_out.ensures) (c.in-Err-carry_out.ensures.alters.none honest s here, stands)
    (λ u left. elim (c.in-Err-carry_out.ensures.alters.stop_none honest u left) [ inl was ↦ inl (looks.0.stop before u was) | inr done ↦ inr (done s here ∙ ap (λ (ps : List Put). after_puts ps s) c.into_parts-puts.ensures.puts) ])

pub returns-in-Err-clause-told : goal.returns-in-Err-clause-told
returns-in-Err-clause-told g c honest s held needs =
    tells_refused_command c.args.desk.now.settings s c.args.moment c.refuse.result (g.H.Lookups.meaning.holds c.plan.new.self.shelf) c.args.caller.now c.args.command c.in-Err.refusal
    (c.in-Err.ensures.looks.1 honest s held) c.refuse.ensures (c.plan.ensures.looks.0.same honest s held)

pub returns-in-Ok-carry_out-clause-told : goal.returns-in-Ok-carry_out-clause-told
returns-in-Ok-carry_out-clause-told g c honest s held needs =
    let before = c.in-Ok-carry_out.ensures.alters.before honest in
    tells_done_command c.args.desk.now.settings s c.args.moment c.built.result (g.H.Lookups.meaning.holds c.carry_out.new.self.shelf) c.args.caller.now c.args.command c.in-Ok.planned
    (c.in-Ok.ensures.looks.1 before s held)
    (c.built.ensures ∙ c.in-Ok-accepted_response.ensures ∙ ap (λ (text : List ℕ). response_of (Json text)) c.into_parts-puts.ensures.reply)
    (subst (λ (ps : List Put). g.H.Lookups.meaning.holds c.carry_out.new.self.shelf (after_puts ps s)) c.into_parts-puts.ensures.puts
    (c.in-Ok-carry_out.ensures.alters.all honest s (c.in-Ok.ensures.looks.0.same before s held)))

pub returns-in-Err-carry_out-clause-told : goal.returns-in-Err-carry_out-clause-told
returns-in-Err-carry_out-clause-told g c honest s held needs =
    let before = c.in-Err-carry_out.ensures.alters.before honest in
    tells_unavailable c.args.desk.now.settings s c.args.moment c.constant-in-Err-carry_out.result (g.H.Lookups.meaning.holds c.carry_out.new.self.shelf) (Gives c.args.caller.now c.args.command)
    (c.constant-in-Err-carry_out.ensures ∙ c.unavailable-in-Err-carry_out.ensures) (c.in-Err-carry_out.ensures.alters.none honest s (c.in-Ok.ensures.looks.0.same before s held))

pub returns-in-Err-clause-certain : goal.returns-in-Err-clause-certain
returns-in-Err-clause-certain g c honest s held =
    certain_command s c.args.moment c.args.caller.now c.args.command c.refuse.result _ c.in-Err.refusal (c.in-Err.ensures.tells honest s held) c.refuse.ensures

pub returns-in-Ok-carry_out-clause-certain : goal.returns-in-Ok-carry_out-clause-certain
returns-in-Ok-carry_out-clause-certain g c honest s held =
    let before = c.in-Ok-carry_out.ensures.alters.before honest in
    nothing_certain s c.args.moment c.args.caller.now c.args.command c.built.result _ (c.in-Ok.ensures.looks.1 before s held).allowed

pub returns-in-Err-carry_out-clause-certain : goal.returns-in-Err-carry_out-clause-certain
returns-in-Err-carry_out-clause-certain g c honest s held =
    let before = c.in-Err-carry_out.ensures.alters.before honest in
    nothing_certain s c.args.moment c.args.caller.now c.args.command c.constant-in-Err-carry_out.result _ (c.in-Ok.ensures.looks.1 before s held).allowed

pub returns-in_default-clause-certain : goal.returns-in_default-clause-certain
returns-in_default-clause-certain g c honest s held =
    nothing_certain s c.args.moment c.args.caller.now c.args.command c.constant.result _ (c.in-Ok.ensures.looks.1 honest s held).allowed
