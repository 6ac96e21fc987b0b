use Rattle.procure_programs.proofs.Names.{image_at, hosting}
use Rattle.procure_programs.proofs.OpenedFiles.{closes, closes_used, serves_at}
use Rattle.procure_programs.proofs.StoppedFiles.{closes_half, half_serves}
use Rattle.procure_programs.proofs.store.serve_from.Goals as goal

pub returns-in-Ok-close_office-clause-serves : goal.returns-in-Ok-close_office-clause-serves
returns-in-Ok-close_office-clause-serves g c =
    let it = c.in-Ok.ensures.serves in
    closes (image_at g.S.Start) c.args.settings c.args.count it.opened c.in-Ok.left.0 c.in-Ok-close_office.left.0 it.held it.empty it.served c.in-Ok-close_office.ensures.closed

pub returns-in-Ok-close_office-clause-used : goal.returns-in-Ok-close_office-clause-used
returns-in-Ok-close_office-clause-used g c =
    let it = c.in-Ok.ensures.serves in
    closes_used (image_at g.S.Start) c.args.settings c.args.count it.opened c.in-Ok.left.0 c.in-Ok-close_office.left.0 it.used it.served c.in-Ok-close_office.ensures.closed

pub returns-in-Err-close_office-clause-half : goal.returns-in-Err-close_office-clause-half
returns-in-Err-close_office-clause-half g c =
    let it = c.in-Ok.ensures.serves in
    closes_half (image_at g.S.Start) c.args.settings c.args.count it.opened c.in-Ok.left.0 c.in-Err-close_office.store c.order.ensures it.held it.empty it.sound it.alone it.served
    c.in-Err-close_office.ensures.half

pub returns-in-Err-close_office-clause-half_at : goal.returns-in-Err-close_office-clause-half_at
returns-in-Err-close_office-clause-half_at g c =
    half_serves g.N.Network.binds (hosting g.N.Opened.Host.events g.N.Opened.Reader.Read.remaining g.N.Opened.Writer.Write.contents) c.args.network.now _ c.args.port (image_at g.S.Start)
    c.args.settings c.args.count c.in-Ok.left.0 c.in-Err-close_office.store c.in-Ok.left.1 c.order.ensures c.in-Ok.ensures.serves c.in-Err-close_office.ensures.half
    c.in-Err-close_office.fault c.in-Err-close_office.ensures.told

pub returns-in-Ok-close_office-clause-turns : goal.returns-in-Ok-close_office-clause-turns
returns-in-Ok-close_office-clause-turns g c =
    serves_at g.N.Network.binds (hosting g.N.Opened.Host.events g.N.Opened.Reader.Read.remaining g.N.Opened.Writer.Write.contents) c.args.network.now _ c.args.port (image_at g.S.Start) c.args.settings
    c.args.count c.in-Ok.left.0 c.in-Ok-close_office.left.0 c.in-Ok.left.1 c.in-Ok-close_office.left.1 c.in-Ok.ensures.serves c.in-Ok-close_office.ensures.closed c.in-Ok-close_office.ensures.worked
