use Rattle.office_sums.proofs.Names.{subst, ForgetsNotice}
use Rattle.office_sums.proofs.NumbersOn.{forgotten}
use Rattle.office_sums.proofs.numbered.RememberedCounts.forget.Goals as goal

pub returns : goal.returns
returns c =
    subst (λ known. ForgetsNotice c.args.notice.now known c.remove.new.self.entries) c.self.view_is
    (forgotten c.args.notice.now c.self.inside.counts.entries c.remove.new.self.entries c.remove.ensures.updates.0)
