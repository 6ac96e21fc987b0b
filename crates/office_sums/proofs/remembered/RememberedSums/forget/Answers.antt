use Rattle.office_sums.proofs.Names.{subst, Forgets}
use Rattle.office_sums.proofs.Forgotten.{forgotten}
use Rattle.office_sums.proofs.remembered.RememberedSums.forget.Goals as goal

pub returns : goal.returns
returns c =
    subst (λ known. Forgets c.args.line.now known c.remove.new.self.entries) c.self.view_is
    (forgotten c.args.line.now c.self.inside.sums.entries c.remove.new.self.entries c.remove.ensures.updates.0)
