use Rattle.procure_programs.proofs.Names.{◌∙◌, ap, DeskOf, hosting}
use Rattle.procure_programs.proofs.ServingSteps.{was_served, was_served_at}
use Rattle.procure_programs.proofs.kept.serve_office.Goals as goal

pub returns-clause-serves : goal.returns-clause-serves
returns-clause-serves g c =
    was_served g.H.Lookups.meaning c.args.count c.args.settings c.args.shelf c.into_shelf.result c.in-Ok.office c.serve_at-served.new.office
    (c.in-Ok.ensures ∙ c.new.ensures) (c.into_shelf.ensures ∙ ap (λ (d : DeskOf _). d.shelf) c.into_desk.ensures) c.serve_at-served.ensures.before c.serve_at-served.ensures.serves

pub returns-clause-turns : goal.returns-clause-turns
returns-clause-turns g c =
    was_served_at g.N.Network.binds (hosting g.N.Opened.Host.events g.N.Opened.Reader.Read.remaining g.N.Opened.Writer.Write.contents) g.H.Lookups.meaning g.H.StoredShelf.store
    c.args.network.now c.serve_at-served.new.network c.args.port c.args.count c.args.settings c.args.shelf c.into_shelf.result c.serve_at-served.result c.in-Ok.office c.serve_at-served.new.office
    (c.in-Ok.ensures ∙ c.new.ensures) (c.into_shelf.ensures ∙ ap (λ (d : DeskOf _). d.shelf) c.into_desk.ensures) c.serve_at-served.ensures.at
