use Rattle.office_sums.proofs.Names.{sym, subst, Remembers}
use Rattle.office_sums.proofs.Known.{put}
use Rattle.office_sums.proofs.remembered.RememberedSums.insert.Goals as goal

pub returns : goal.returns
returns c = record {
  kept = λ t are h.
      put c.insert.result c.args.line c.args.sums c.self.inside.sums c.insert.new.self t c.insert.ensures.updates c.insert.ensures.err are
      (subst (λ known. Remembers known t) (sym c.self.view_is) h);
}
