use Rattle.procure_programs.proofs.Names.{image_at, hosting}
use Rattle.procure_programs.proofs.StoppedFiles.{stops, stops_at}
use Rattle.procure_programs.proofs.store.stop_from.Goals as goal

pub returns-clause-stops : goal.returns-clause-stops
returns-clause-stops g c =
    let it = c.in_ok-shelf.ensures.serves in
    stops (image_at g.S.Start) c.args.settings c.args.count it.opened c.in_ok-shelf.shelf c.put_down.result c.order.ensures it.held it.empty it.sound it.alone it.served c.put_down.ensures.left

pub returns-clause-turns : goal.returns-clause-turns
returns-clause-turns g c =
    stops_at g.N.Network.binds (hosting g.N.Opened.Host.events g.N.Opened.Reader.Read.remaining g.N.Opened.Writer.Write.contents) c.args.network.now _ c.args.port (image_at g.S.Start)
    c.args.settings c.args.count c.in_ok-shelf.shelf c.put_down.result c.in_ok-shelf.served c.order.ensures c.in_ok-shelf.ensures.serves c.put_down.ensures.left
