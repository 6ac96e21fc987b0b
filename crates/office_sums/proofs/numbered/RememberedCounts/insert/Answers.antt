use Rattle.office_sums.proofs.Names.{sym, subst, CountsReleases}
use Rattle.office_sums.proofs.NumbersOn.{put}
use Rattle.office_sums.proofs.numbered.RememberedCounts.insert.Goals as goal

pub returns : goal.returns
returns c t are h =
    put c.insert.result c.args.notice c.args.count c.self.inside.counts c.insert.new.self t c.insert.ensures.updates c.insert.ensures.err are
    (subst (λ known. CountsReleases known t) (sym c.self.view_is) h)
