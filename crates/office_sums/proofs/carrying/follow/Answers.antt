use Rattle.office_sums.proofs.Names.{sym, subst, ◌∙◌, keeps_then, Remembers}
use Rattle.office_sums.proofs.LastLots.{after_more}
use Rattle.office_sums.proofs.carrying.follow.Goals as goal

pub loop-at-preserved : goal.loop-at-preserved
loop-at-preserved g c =
    let puts = c.args.puts.now in
    let at = c.loop-at.at in
    let put = c.index-puts-at.result in
    let passed = c.loop-at.invariant in
    let step = c.in_ok-follow_one.ensures in (
      (
        keeps_then g.H.Lookups.meaning _ _ _ passed.0.0 step.0.0,
        λ honest t held knows.
            let middle = step.0.0.before honest in
            let done = passed.0.1 middle t held knows in
            let now = step.0.1 honest t (passed.0.0.same middle t held) knows in record {
              right = λ sorted h. subst (Remembers c.follow_one.new.known) (sym (after_more t puts at put _ c.index-puts-at.is c.loop-at-test.true)) (now.right sorted (done.right sorted h));
            },
      ),
      step.1.counted ∙ passed.1,
    )
