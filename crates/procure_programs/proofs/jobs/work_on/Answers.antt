use Rattle.procure_programs.proofs.Names.{refl}
use Rattle.procure_programs.proofs.jobs.work_on.Goals as goal

pub returns-in-Serve : goal.returns-in-Serve
returns-in-Serve g c = rw c.in-Serve.is (c.serve_under.ensures, refl)
