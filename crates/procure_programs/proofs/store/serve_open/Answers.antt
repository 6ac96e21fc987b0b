use Rattle.procure_programs.proofs.Names.{image_at, hosting}
use Rattle.procure_programs.proofs.OpenedFiles.{opened_serves}
use Rattle.procure_programs.proofs.store.serve_open.Goals as goal

pub returns-clause-serves : goal.returns-clause-serves
returns-clause-serves g c =
    let it = c.in-Ok.ensures in
    opened_serves g.N.Network.binds (hosting g.N.Opened.Host.events g.N.Opened.Reader.Read.remaining g.N.Opened.Writer.Write.contents) c.args.network.now c.serve_shelf.new.network c.args.port (image_at g.S.Start) c.args.settings c.args.count
    c.in-Ok.opened.shelf c.serve_shelf.result it.held it.empty it.sound it.alone it.used c.serve_shelf.ensures.serves c.serve_shelf.ensures.turns
