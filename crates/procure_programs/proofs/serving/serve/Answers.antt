use Rattle.procure_programs.proofs.Names.{hosting}
use Rattle.procure_programs.proofs.Turns.{serves_steps, turns_before, turns_fault}
use Rattle.procure_programs.proofs.serving.serve.Goals as goal

pub returns-clause-before : goal.returns-clause-before
returns-clause-before g c =
    turns_before (hosting g.T.Host.events g.T.Reader.Read.remaining g.T.Writer.Write.contents) g.H.Lookups.meaning g.H.StoredShelf.store c.args.count c.args.host.now
    c.take_turns.new.host c.args.office.now c.take_turns.new.office c.take_turns.result c.take_turns.ensures

pub returns-clause-served : goal.returns-clause-served
returns-clause-served g c =
    serves_steps (hosting g.T.Host.events g.T.Reader.Read.remaining g.T.Writer.Write.contents) g.H.Lookups.meaning g.H.StoredShelf.store c.accounts_and_fates.ensures.steps c.args.count
    c.args.host.now c.take_turns.new.host c.args.office.now c.take_turns.new.office c.take_turns.result c.take_turns.ensures

pub returns-clause-fault : goal.returns-clause-fault
returns-clause-fault g c =
    turns_fault (hosting g.T.Host.events g.T.Reader.Read.remaining g.T.Writer.Write.contents) g.H.Lookups.meaning g.H.StoredShelf.store c.args.count c.args.host.now
    c.take_turns.new.host c.args.office.now c.take_turns.new.office c.take_turns.result c.take_turns.ensures
