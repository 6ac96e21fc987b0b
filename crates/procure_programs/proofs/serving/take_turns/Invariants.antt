use Rattle.procure_programs.proofs.Names.{hosting, GoesOnFor}
use Rattle.procure_programs.proofs.serving.take_turns.Given as goal

abbrev pub invariant-connections : goal.invariant-connections
invariant-connections g l = record {
  turns : GoesOnFor (hosting g.T.Host.events g.T.Reader.Read.remaining g.T.Writer.Write.contents) g.H.Lookups.meaning g.H.StoredShelf.store l.taken l.fn.host l.host l.fn.office l.office;
}
