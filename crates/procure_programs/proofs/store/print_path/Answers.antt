use Rattle.procure_programs.proofs.Names.{Ok, Err, refl, image_at}
use Rattle.procure_programs.proofs.OpenedFiles.{prints_by}
use Rattle.procure_programs.proofs.store.print_path.Goals as goal

pub returns-in-Ok-clause-runs : goal.returns-in-Ok-clause-runs
returns-in-Ok-clause-runs g c = (Ok c.in-Ok.printed, (c.in-Ok.ensures.keeps, c.in-Ok.ensures.printed), refl)

pub returns-in-Err-clause-runs : goal.returns-in-Err-clause-runs
returns-in-Err-clause-runs g c = (
  Err c.in-Err.left,
  prints_by (image_at g.S.Start) c.args.settings c.args.printout c.args.output.now.contents _ c.in-Err.left.0 c.in-Err.left.1 c.in-Err.ensures.half c.in-Err.ensures.half_text
      c.in-Err.ensures.unprinted,
  refl,
)
