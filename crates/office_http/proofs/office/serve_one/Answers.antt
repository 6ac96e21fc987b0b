use Rattle.office_http.proofs.WatchedSteps.{served_watched, watched_end, watched_from, watched_start}
use Rattle.office_http.proofs.office.serve_one.Goals as goal

pub returns-clause-served : goal.returns-clause-served
returns-clause-served g c honest h held =
    let M = g.H.Lookups.meaning in
    let old = c.args.office.now in
    let served = c.serve_one.ensures.served honest (watched_from M old.shelf h) (watched_start M old h held) in
    let end = watched_end M old.shelf c.serve_one.new.desk h served.0 served.2 in (
      served.0,
      served_watched M old.shelf c.serve_one.new.desk h c.serve_one.result c.args.reader.now.remaining c.serve_one.new.reader.remaining c.args.moment served.0
          c.args.writer.now.contents c.serve_one.new.writer.contents served.1,
      record { stands = end.0; stops = end.1; kept = λ xs reached. c.accounts_and_fates.ensures.steps xs h reached served.0 },
    )
