use Rattle.office_http.proofs.Names.{rules, ◌≡◌, false, None, Result, Ok, Err, refl, subst, inl, ◌∙◌, Refusal, Asked, Does, AnswersMeant, IsCertain, ChangesOnlyAccepting, IsTold, ShowsMeant, Refuses, meant_asked, response_of}
use Rattle.office_requests.specs.declared.asked.Asked.TheVariants.{Looks}
use Rattle.office_http.proofs.CertainSteps.{certain_refusal}
use Rattle.office_http.specs.declared.reply.Reply.TheVariants.{Refused}
use Rattle.office_http.proofs.AnswerSteps.{is_refused}
use Rattle.office_http.proofs.RequestSteps.{tells_some}
use Rattle.office_http.proofs.answering.answer_asked.Goals as goal

pub returns-in-Ok-Does-clause-answered : goal.returns-in-Ok-Does-clause-answered
returns-in-Ok-Does-clause-answered g c =
    let is : Ok (Does c.in-Ok-Does.command) ≡ c.args.asked = search rules in
    subst (λ (a : Result Asked Refusal). AnswersMeant g.H.Lookups.meaning c.args.desk.now.settings c.args.desk.now.shelf c.answer_command.new.desk.shelf c.args.moment
    (λ s. meant_asked c.args.caller.now a) c.answer_command.result) is c.answer_command.ensures.answered

pub returns-in-Err-clause-answered : goal.returns-in-Err-clause-answered
returns-in-Err-clause-answered g c =
    let is : Err c.in-Err.refusal ≡ c.args.asked = search rules in
    subst (λ (a : Result Asked Refusal). AnswersMeant g.H.Lookups.meaning c.args.desk.now.settings c.args.desk.now.shelf c.args.desk.now.shelf c.args.moment
    (λ s. meant_asked c.args.caller.now a) c.refuse.result) is
    (λ honest s held stands can.
    is_refused g.H.Lookups.meaning c.args.desk.now.settings c.args.desk.now.shelf c.args.desk.now.shelf s c.args.moment c.refuse.result (Refuses c.in-Err.refusal None)
    c.in-Err.refusal None refl refl refl (inl c.refuse.ensures) (held, stands) (λ u left. left))

pub returns-in-Ok-Does-clause-shown : goal.returns-in-Ok-Does-clause-shown
returns-in-Ok-Does-clause-shown g c honest s held =
    let is : Ok (Does c.in-Ok-Does.command) ≡ c.args.asked = search rules in
    subst (λ (a : Result Asked Refusal). ShowsMeant c.args.desk.now.settings.publisher (meant_asked c.args.caller.now a) s c.answer_command.result) is tt

pub returns-in-Err-clause-shown : goal.returns-in-Err-clause-shown
returns-in-Err-clause-shown g c honest s held =
    let is : Err c.in-Err.refusal ≡ c.args.asked = search rules in
    subst (λ (a : Result Asked Refusal). ShowsMeant c.args.desk.now.settings.publisher (meant_asked c.args.caller.now a) s c.refuse.result) is (tells_some c.in-Err.refusal None c.refuse.result (inl c.refuse.ensures))

pub returns-in-Ok-Does-clause-changes : goal.returns-in-Ok-Does-clause-changes
returns-in-Ok-Does-clause-changes g c =
    let is : Ok (Does c.in-Ok-Does.command) ≡ c.args.asked = search rules in
    subst (λ (a : Result Asked Refusal). ChangesOnlyAccepting g.H.Lookups.meaning c.args.desk.now.shelf c.answer_command.new.desk.shelf (λ s. meant_asked c.args.caller.now a) c.answer_command.result)
    is c.answer_command.ensures.changes

pub returns-in-Ok-Looks-clause-changes : goal.returns-in-Ok-Looks-clause-changes
returns-in-Ok-Looks-clause-changes g c =
    let is : Ok (Looks c.in-Ok-Looks.query) ≡ c.args.asked = search rules in
    subst (λ (a : Result Asked Refusal). ChangesOnlyAccepting g.H.Lookups.meaning c.args.desk.now.shelf c.answer_query.new.desk.shelf (λ s. meant_asked c.args.caller.now a) c.answer_query.result)
    is c.answer_query.ensures.changes

pub returns-in-Err-clause-refused : goal.returns-in-Err-clause-refused
returns-in-Err-clause-refused g c why given =
    let is : Err c.in-Err.refusal ≡ c.args.asked = search rules in
    let same : c.in-Err.refusal ≡ why = cc (is ∙ given) in
    subst (λ (w : Refusal). c.refuse.result ≡ response_of (Refused w None)) same c.refuse.ensures

pub returns-in-Ok-Does-clause-told : goal.returns-in-Ok-Does-clause-told
returns-in-Ok-Does-clause-told g c =
    let is : Ok (Does c.in-Ok-Does.command) ≡ c.args.asked = search rules in
    subst (λ (a : Result Asked Refusal). IsTold g.H.Lookups.meaning c.args.desk.now.settings c.args.desk.now.shelf c.answer_command.new.desk.shelf c.args.moment
    (λ s. meant_asked c.args.caller.now a) c.answer_command.result) is c.answer_command.ensures.told

pub returns-in-Ok-Looks-clause-told : goal.returns-in-Ok-Looks-clause-told
returns-in-Ok-Looks-clause-told g c =
    let is : Ok (Looks c.in-Ok-Looks.query) ≡ c.args.asked = search rules in
    subst (λ (a : Result Asked Refusal). IsTold g.H.Lookups.meaning c.args.desk.now.settings c.args.desk.now.shelf c.answer_query.new.desk.shelf c.args.moment
    (λ s. meant_asked c.args.caller.now a) c.answer_query.result) is c.answer_query.ensures.told

pub returns-in-Err-clause-told : goal.returns-in-Err-clause-told
returns-in-Err-clause-told g c =
    let is : Err c.in-Err.refusal ≡ c.args.asked = search rules in
    subst (λ (a : Result Asked Refusal). IsTold g.H.Lookups.meaning c.args.desk.now.settings c.args.desk.now.shelf c.args.desk.now.shelf c.args.moment
    (λ s. meant_asked c.args.caller.now a) c.refuse.result) is
    (λ honest s held needs. (false, c.refuse.ensures, λ none. held, λ done keeps. held, λ done. tt))

pub returns-in-Ok-Does-clause-certain : goal.returns-in-Ok-Does-clause-certain
returns-in-Ok-Does-clause-certain g c =
    let is : Ok (Does c.in-Ok-Does.command) ≡ c.args.asked = search rules in
    subst (λ (a : Result Asked Refusal). IsCertain g.H.Lookups.meaning c.args.desk.now.shelf c.answer_command.new.desk.shelf c.args.moment
    (λ s. meant_asked c.args.caller.now a) c.answer_command.result) is c.answer_command.ensures.certain

pub returns-in-Ok-Looks-clause-certain : goal.returns-in-Ok-Looks-clause-certain
returns-in-Ok-Looks-clause-certain g c =
    let is : Ok (Looks c.in-Ok-Looks.query) ≡ c.args.asked = search rules in
    subst (λ (a : Result Asked Refusal). IsCertain g.H.Lookups.meaning c.args.desk.now.shelf c.answer_query.new.desk.shelf c.args.moment
    (λ s. meant_asked c.args.caller.now a) c.answer_query.result) is c.answer_query.ensures.certain

pub returns-in-Err-clause-certain : goal.returns-in-Err-clause-certain
returns-in-Err-clause-certain g c =
    let is : Err c.in-Err.refusal ≡ c.args.asked = search rules in
    subst (λ (a : Result Asked Refusal). IsCertain g.H.Lookups.meaning c.args.desk.now.shelf c.args.desk.now.shelf c.args.moment
    (λ s. meant_asked c.args.caller.now a) c.refuse.result) is
    (λ honest s held. certain_refusal c.refuse.result _ s c.args.moment (Refuses c.in-Err.refusal None) c.in-Err.refusal None refl c.refuse.ensures)
