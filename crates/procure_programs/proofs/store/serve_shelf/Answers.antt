use Rattle.procure_programs.proofs.Names.{subst, sym, sql_meaning, WasServed}
use Rattle.procure_programs.proofs.RememberedServing.{asked_inside, served_inside}
use Rattle.procure_programs.proofs.store.serve_shelf.Goals as goal

pub returns-clause-serves : goal.returns-clause-serves
returns-clause-serves g c =
    let M = sql_meaning g.A.Store in
    let around = asked_inside M c.args.shelf c.new-first.result c.add_up.new.shelf c.new-first.ensures.shelf c.new-first.ensures.holds c.add_up.ensures in
    subst (WasServed M c.args.count c.args.settings c.args.shelf) (sym c.into_shelf.ensures)
    (served_inside M c.args.shelf c.args.count c.args.settings c.add_up.new.shelf c.in_ok-last.last around
    (λ honest t held. c.add_up.ensures.same honest t (c.new-first.ensures.holds t held)) c.in_ok-last.ensures.serves)

pub returns-clause-turns : goal.returns-clause-turns
returns-clause-turns g c = record {
  first = c.add_up.new.shelf;
  last = c.in_ok-last.last;
  around = asked_inside (sql_meaning g.A.Store) c.args.shelf c.new-first.result c.add_up.new.shelf c.new-first.ensures.shelf c.new-first.ensures.holds c.add_up.ensures;
  before = λ honest. c.in_ok-last.ensures.serves.0 (subst (sql_meaning g.A.Store).honest (c.into_shelf.ensures) honest);
  holds = λ honest t held. c.add_up.ensures.same honest t (c.new-first.ensures.holds t held);
  inside = sym c.into_shelf.ensures;
  turns = c.in_ok-last.ensures.turns;
}
