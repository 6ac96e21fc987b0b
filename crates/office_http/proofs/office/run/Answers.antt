use Rattle.office_http.proofs.WatchedSteps.{ran_watched, watched_end, watched_from, watched_start}
use Rattle.office_http.proofs.office.run.Goals as goal

pub returns-clause-ran : goal.returns-clause-ran
returns-clause-ran g c honest h held =
    let M = g.H.Lookups.meaning in
    let old = c.args.office.now in
    let ran = c.run.ensures.ran honest (watched_from M old.shelf h) (watched_start M old h held) in
    let end = watched_end M old.shelf c.run.new.desk h ran.0 ran.2 in (
      ran.0,
      ran_watched M old.shelf c.run.new.desk h c.run.result c.args.reader.now c.run.new.reader ran.0 c.args.writer.now.contents c.run.new.writer.contents ran.1,
      record { stands = end.0; stops = end.1; kept = λ xs reached. c.accounts_and_fates.ensures.steps xs h reached ran.0 },
    )
