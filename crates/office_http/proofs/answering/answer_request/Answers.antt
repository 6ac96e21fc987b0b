use Rattle.office_http.proofs.Names.{IsReached}
use Rattle.office_http.proofs.answering.answer_request.Goals as goal

pub returns-clause-kept : goal.returns-clause-kept
returns-clause-kept g c honest s held xs reached keeps =
    let stands : IsReached c.args.desk.now.settings.publisher s = record { commands = xs; reaches = reached; keeps = keeps } in
    let answered = c.answer_read.ensures.answered honest s held stands in (
      answered.0,
      answered.1,
      answered.2,
      c.accounts_and_fates.ensures.requests c.args.desk.now.settings xs s reached c.args.request.now c.args.moment answered.0,
      answered.3.keeps,
    )
