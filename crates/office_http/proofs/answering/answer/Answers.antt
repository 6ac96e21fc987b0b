use Rattle.office_http.proofs.Names.{[], ◌∙◌, inl, inr, held_by}
use Rattle.office_http.proofs.answering.answer.Goals as goal

pub returns-in-Ok-clause-answered : goal.returns-in-Ok-clause-answered
returns-in-Ok-clause-answered g c =
    let read = c.in-Ok.ensures.request c.args.bytes.now c.new-reader.ensures.remaining in
    inl (record {
      request = c.in-Ok.request;
      rest = read.rest;
      stands = read.whole;
      answered = c.answer_request.ensures.answered;
      changes = c.answer_request.ensures.changes;
      shown = c.answer_request.ensures.shown;
      sight = c.answer_request.ensures.sight;
      certain = c.answer_request.ensures.certain;
      told = c.answer_request.ensures.told;
    })

pub returns-in-Ok-clause-kept : goal.returns-in-Ok-clause-kept
returns-in-Ok-clause-kept g c =
    let read = c.in-Ok.ensures.request c.args.bytes.now c.new-reader.ensures.remaining in
    inl (record { request = c.in-Ok.request; rest = read.rest; stands = read.whole; kept = c.answer_request.ensures.kept })

pub returns-in-Err-clause-kept : goal.returns-in-Err-clause-kept
returns-in-Err-clause-kept g c =
    inr (record {
      why = c.in-Err.fault;
      refused = c.in-Err.ensures.refused c.args.bytes.now c.new-reader.ensures.remaining;
      text_is = c.constant.ensures ∙ c.fault_response.ensures;
      kept = λ honest s held xs reached. (held, c.accounts_and_fates.ensures.steps xs (held_by c.args.desk.now s) reached []);
    })
