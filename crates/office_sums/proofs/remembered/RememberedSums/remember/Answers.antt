use Rattle.office_sums.proofs.Names.{sym, subst, AreSums}
use Rattle.office_sums.proofs.remembered.RememberedSums.remember.Goals as goal

pub returns : goal.returns
returns c = record {
  kept = λ t are h. c.insert.ensures.kept t (subst (λ sums. AreSums c.args.line.now sums t) (sym c.of.ensures) are) (c.make_room.ensures.kept t h);
}
