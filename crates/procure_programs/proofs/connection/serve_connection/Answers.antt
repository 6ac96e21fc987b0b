use Rattle.procure_programs.proofs.Names.{◌∙◌, ℕ, List, Option, refl, subst, IsServed}
use Rattle.procure_programs.proofs.ConnectionSteps.{buffers, ended_refused, refused_connection}
use Rattle.procure_programs.proofs.connection.serve_connection.Goals as goal

pub returns-in-Ok-clause-served : goal.returns-in-Ok-clause-served
returns-in-Ok-clause-served g c =
    let new = c.in-Ok.ensures in
    let there = c.new-counted.ensures.remaining ∙ buffers g.R.Read.remaining c.args.reader c.in-Ok.buffered new.inner new.empty new.capacity in (
      c.serve_one-result.new.reader.remaining,
      subst (λ (came : Option (List ℕ)). IsServed g.H.Lookups.meaning c.serve_one-result.result came c.serve_one-result.new.reader.remaining c.args.moment c.args.office.now
          c.serve_one-result.new.office c.args.writer.now.contents c.serve_one-result.new.writer.contents) there c.serve_one-result.ensures.served,
    )

pub returns-in-Ok-clause-ended : goal.returns-in-Ok-clause-ended
returns-in-Ok-clause-ended g c = record {
  flushed = c.serve_one-result.ensures.flushed;
  cut = c.serve_one-result.ensures.writes;
  stopped = λ same. (c.serve_one-result.new.reader, refl, c.serve_one-result.ensures.cause same);
}

pub returns-in-Err-clause-served : goal.returns-in-Err-clause-served
returns-in-Err-clause-served g c =
    refused_connection g.H.Lookups.meaning c.accounts_and_fates.ensures.steps c.args.moment (g.R.Read.remaining c.args.reader) c.args.writer.now.contents c.refuse-result.new.writer.contents c.args.office.now
    c.refuse-result.result c.refuse-result.ensures.told c.refuse-result.ensures.part c.refuse-result.ensures.fault

pub returns-in-Err-clause-ended : goal.returns-in-Err-clause-ended
returns-in-Err-clause-ended g c =
    ended_refused c.refuse-result.new.writer c.refuse-result.result c.refuse-result.ensures.flushed c.refuse-result.ensures.cause c.refuse-result.ensures.fault
