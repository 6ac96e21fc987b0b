use Rattle.procure_programs.proofs.Names.{inl, inr, refl}
use Rattle.procure_programs.proofs.jobs.serve_under.Goals as goal

pub returns-in-Ok : goal.returns-in-Ok
returns-in-Ok g c = inl (c.in-Ok.settings, c.in-Ok.ensures.settings, c.serve_path.ensures)

pub returns-in-Err : goal.returns-in-Err
returns-in-Err g c = inr (c.in-Err.fault, c.in-Err.ensures.cause, refl, refl)
