use Rattle.procure_programs.proofs.Names.{Ok, Err, refl, image_at, hosting}
use Rattle.procure_programs.proofs.OpenedFiles.{ends_by}
use Rattle.procure_programs.proofs.store.serve_path.Goals as goal

pub returns-in-Ok : goal.returns-in-Ok
returns-in-Ok g c = (Ok c.in-Ok.served, (c.in-Ok.ensures.serves, c.in-Ok.ensures.turns), refl)

pub returns-in-Err : goal.returns-in-Err
returns-in-Err g c = (
  Err c.in-Err.left,
  ends_by g.N.Network.binds (hosting g.N.Opened.Host.events g.N.Opened.Reader.Read.remaining g.N.Opened.Writer.Write.contents) c.args.network.now _ c.args.port (image_at g.S.Start) c.args.settings
      c.args.count c.in-Err.left.0 c.in-Err.left.1 c.in-Err.ensures.half c.in-Err.ensures.half_at c.in-Err.ensures.unserved,
  refl,
)
