use Rattle.procure_programs.proofs.Names.{inl, inr, refl}
use Rattle.procure_programs.proofs.desk.desk_on.Goals as goal

pub returns-in-Ok-clause-ran : goal.returns-in-Ok-clause-ran
returns-in-Ok-clause-ran g c = inl (c.in-Ok.settings, c.in-Ok.ensures.settings, c.answer_from_empty.ensures.ran)

pub returns-in-Err-clause-ran : goal.returns-in-Err-clause-ran
returns-in-Err-clause-ran g c = inr (c.in-Err.fault, c.in-Err.ensures.cause, refl, (refl, refl))
