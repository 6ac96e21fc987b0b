use Rattle.procure_programs.proofs.Names.{inl, inr, refl, hosting}
use Rattle.procure_programs.proofs.ServingSteps.{served_none, serving_kept}
use Rattle.procure_programs.proofs.Turns.{takes_turns}
use Rattle.procure_programs.proofs.serving.serve_at.Goals as goal

pub returns-in-None-clause-at : goal.returns-in-None-clause-at
returns-in-None-clause-at g c = (c.loopback.result, c.loopback.ensures, inl (rw c.in-None.is at c.bind.ensures, refl, refl))

pub returns-in-Some-clause-at : goal.returns-in-Some-clause-at
returns-in-Some-clause-at g c = (c.loopback.result, c.loopback.ensures, inr (c.in-Some.host, c.serve.new.host, rw c.in-Some.is at c.bind.ensures, c.serve.ensures.served))

pub returns-in-None-clause-serves : goal.returns-in-None-clause-serves
returns-in-None-clause-serves g c =
    serving_kept g.H.Lookups.meaning c.args.count c.args.office.now c.args.office.now c.accounts_and_fates.ensures.steps (served_none g.H.Lookups.meaning c.args.count c.args.office.now)

pub returns-in-Some-clause-serves : goal.returns-in-Some-clause-serves
returns-in-Some-clause-serves g c =
    takes_turns (hosting g.N.Opened.Host.events g.N.Opened.Reader.Read.remaining g.N.Opened.Writer.Write.contents) g.H.Lookups.meaning g.H.StoredShelf.store c.args.count
    c.in-Some.host c.serve.new.host c.args.office.now c.serve.new.office c.serve.result c.serve.ensures.served
