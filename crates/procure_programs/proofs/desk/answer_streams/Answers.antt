use Rattle.procure_programs.proofs.Names.{Err, ap, refl, ProgramFault}
use Rattle.procure_programs.proofs.desk.answer_streams.Goals as goal

pub returns-in-Ok-clause-ran : goal.returns-in-Ok-clause-ran
returns-in-Ok-clause-ran g c = record {
  ended = c.run.result;
  told = rw c.in-Ok.is refl;
  run = c.run.ensures.ran;
  read = c.run.ensures.cause;
  written = c.run.ensures.writes;
}

pub returns-in-Err-clause-ran : goal.returns-in-Err-clause-ran
returns-in-Err-clause-ran g c = record {
  ended = c.run.result;
  told = rw c.in-Err.is (ap (λ (f : ProgramFault). Err f) c.of_run.ensures);
  run = c.run.ensures.ran;
  read = c.run.ensures.cause;
  written = c.run.ensures.writes;
}
