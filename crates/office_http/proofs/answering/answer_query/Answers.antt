use Rattle.office_http.proofs.Names.{◌∙◌, None, ap, inr, inl, QueryKind, seen_as, Sees, response_of}
use Rattle.office_http.proofs.AlwaysTold.{tells_refused_query, tells_shown_query, tells_unavailable}
use Rattle.office_http.proofs.CertainSteps.{refused_query, shown_query}
use Rattle.office_http.proofs.AnswerSteps.{query_refused, query_told}
use Rattle.office_http.proofs.RequestSteps.{tells_some}
use Rattle.office_http.proofs.answering.answer_query.Goals as goal

pub returns-in-Err-clause-answered : goal.returns-in-Err-clause-answered
returns-in-Err-clause-answered g c honest s held stands can =
    query_refused g.H.Lookups.meaning c.args.desk.now.settings c.args.desk.now.shelf c.look.new.self.shelf s c.args.moment c.refuse.result c.args.caller.now c.args.query
    c.in-Err.refusal (c.in-Err.ensures.looks.1 honest s held) (inl c.refuse.ensures) (c.look.ensures.looks.0.same honest s held, stands) (c.look.ensures.looks.0.stop honest)

pub returns-in-Ok-seen_response-clause-answered : goal.returns-in-Ok-seen_response-clause-answered
returns-in-Ok-seen_response-clause-answered g c honest s held stands can =
    query_told g.H.Lookups.meaning c.args.desk.now.settings c.args.desk.now.shelf c.look.new.self.shelf s c.args.moment c.built.result c.args.caller.now c.args.query
    c.in-Ok.text.items (c.in-Ok.ensures.looks.1 honest s held)
    (c.built.ensures ∙ c.in-Ok-seen_response.ensures ∙ ap (λ (k : QueryKind). response_of (seen_as k c.in-Ok.text.items)) c.kind.ensures)
    (c.look.ensures.looks.0.same honest s held, stands) (c.look.ensures.looks.0.stop honest)

pub returns-in-Err-clause-shown : goal.returns-in-Err-clause-shown
returns-in-Err-clause-shown g c honest s held = inr (tells_some c.in-Err.refusal None c.refuse.result (inl c.refuse.ensures))

pub returns-in-Err-clause-told : goal.returns-in-Err-clause-told
returns-in-Err-clause-told g c honest s held needs =
    tells_refused_query c.args.desk.now.settings s c.args.moment c.refuse.result (g.H.Lookups.meaning.holds c.look.new.self.shelf) c.args.caller.now c.args.query c.in-Err.refusal
    (c.in-Err.ensures.looks.1 honest s held) needs c.refuse.ensures (c.look.ensures.looks.0.same honest s held)

pub returns-in-Ok-seen_response-clause-told : goal.returns-in-Ok-seen_response-clause-told
returns-in-Ok-seen_response-clause-told g c honest s held needs =
    tells_shown_query c.args.desk.now.settings s c.args.moment c.built.result (g.H.Lookups.meaning.holds c.look.new.self.shelf) c.args.caller.now c.args.query c.in-Ok.text.items
    (c.in-Ok.ensures.looks.1 honest s held) needs
    (c.built.ensures ∙ c.in-Ok-seen_response.ensures ∙ ap (λ (k : QueryKind). response_of (seen_as k c.in-Ok.text.items)) c.kind.ensures)
    (c.look.ensures.looks.0.same honest s held)

pub returns-in-Err-seen_response-clause-told : goal.returns-in-Err-seen_response-clause-told
returns-in-Err-seen_response-clause-told g c honest s held needs =
    tells_unavailable c.args.desk.now.settings s c.args.moment c.constant.result (g.H.Lookups.meaning.holds c.look.new.self.shelf) (Sees c.args.caller.now c.args.query)
    (c.constant.ensures ∙ c.unavailable.ensures) (c.look.ensures.looks.0.same honest s held)

pub returns-in-Err-clause-certain : goal.returns-in-Err-clause-certain
returns-in-Err-clause-certain g c honest s held =
    refused_query s c.args.moment c.args.caller.now c.args.query c.refuse.result _ c.in-Err.refusal (c.in-Err.ensures.tells honest s held) c.refuse.ensures

pub returns-in-Ok-seen_response-clause-certain : goal.returns-in-Ok-seen_response-clause-certain
returns-in-Ok-seen_response-clause-certain g c honest s held =
    shown_query s c.args.moment c.args.caller.now c.args.query c.built.result _ c.in-Ok.text (c.in-Ok.ensures.tells honest s held)

pub returns-in-Err-seen_response-clause-certain : goal.returns-in-Err-seen_response-clause-certain
returns-in-Err-seen_response-clause-certain g c honest s held =
    shown_query s c.args.moment c.args.caller.now c.args.query c.constant.result _ c.in-Ok.text (c.in-Ok.ensures.tells honest s held)
