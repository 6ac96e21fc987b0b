use Rattle.procure_programs.proofs.Names.{err_from_is_err_and, hosting}
use Rattle.procure_programs.proofs.Turns.{no_clock, served_one}
use Rattle.procure_programs.proofs.serving.take_one.Goals as goal

pub returns-in_err-moment : goal.returns-in_err-moment
returns-in_err-moment g c =
    let p = err_from_is_err_and c.from_residual.result c.from_residual.ensures.1 in
    rw (p.1, p.2) (no_clock (hosting g.T.Host.events g.T.Reader.Read.remaining g.T.Writer.Write.contents) g.H.Lookups.meaning c.args.host.now c.accept.new.self
    c.in-Some.reader c.in-Some.writer (rw c.in-Some.is at c.accept.ensures) c.in_err-moment.field-0.0 c.moment_now.new.host c.args.office.now c.in_err-moment.ensures)

pub returns : goal.returns
returns g c =
    served_one (hosting g.T.Host.events g.T.Reader.Read.remaining g.T.Writer.Write.contents) g.H.Lookups.meaning c.args.host.now c.accept.new.self c.in-Some.reader c.in-Some.writer
    (rw c.in-Some.is at c.accept.ensures) c.moment_now.new.host c.close.new.self c.into_inner.result c.args.office.now c.serve_connection-reader.new.office c.in_ok-moment.moment
    c.serve_connection-reader.result.1 c.new-watched.result.contents c.serve_connection-reader.new.writer.contents c.in_ok-moment.ensures c.new-watched.ensures.contents
    c.into_inner.ensures c.serve_connection-reader.ensures.served c.serve_connection-reader.ensures.before c.close.ensures
