use Rattle.office_desk.proofs.Names.{subst, sym, Query, TellsQuery}
use Rattle.office_desk.proofs.queries.look_at.Goals as goal

pub returns-in-Record-clause-tells : goal.returns-in-Record-clause-tells
returns-in-Record-clause-tells g c =
    let family : Query → Type 0 = λ query.
    TellsQuery g.H.Lookups.meaning c.args.shelf.now c.look_at_record.new.shelf c.args.caller.now query c.look_at_record.result in
    subst family (sym c.in-Record.is) c.look_at_record.ensures.tells
