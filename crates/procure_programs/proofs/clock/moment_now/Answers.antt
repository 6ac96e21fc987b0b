use Rattle.procure_programs.proofs.clock.moment_now.Goals as goal

pub returns-in-Some : goal.returns-in-Some
returns-in-Some g c = (_, rw c.in-Some.is at c.time.ensures, c.moment_after.ensures)
