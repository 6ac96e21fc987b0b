use Rattle.procure_programs.proofs.Names.{err_from_is_err_and, hosting}
use Rattle.procure_programs.proofs.Turns.{one_more}
use Rattle.procure_programs.proofs.serving.take_turns.Goals as goal

pub returns-in_err-take_turn : goal.returns-in_err-take_turn
returns-in_err-take_turn g c =
    let p = err_from_is_err_and c.from_residual.result c.from_residual.ensures.1 in
    rw (p.1, p.2) (c.connections.taken, c.connections-test.true, c.connections.host, c.connections.office, c.connections.invariant.turns, c.in_err-take_turn.ensures)

pub connections-preserved : goal.connections-preserved
connections-preserved g c = record {
  turns = one_more (hosting g.T.Host.events g.T.Reader.Read.remaining g.T.Writer.Write.contents) g.H.Lookups.meaning g.H.StoredShelf.store c.connections.taken
      c.args.host.now c.connections.host c.take_turn.new.host c.args.office.now c.connections.office c.take_turn.new.office c.connections.invariant.turns c.in_ok-take_turn.ensures;
}
