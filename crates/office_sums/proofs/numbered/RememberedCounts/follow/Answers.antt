use Rattle.office_sums.proofs.Names.{take, sym, subst, arith, take_all, sorted-puts, after_puts, CountsOn, CountsReleases}
use Rattle.office_sums.proofs.LastLots.{after_more}
use Rattle.office_sums.proofs.numbered.RememberedCounts.follow.Goals as goal

pub loop-put-preserved : goal.loop-put-preserved
loop-put-preserved c t =
    let puts = c.args.puts.now in
    let at = c.loop-put.put-index in record {
      right = λ sorted h.
          subst (CountsReleases c.follow_one.new.self) (sym (after_more t puts at c.put-item.result _ c.put-item.is c.loop-put-test.true))
          ((c.follow_one.ensures (after_puts (take at puts) t)).right (sorted-puts (take at puts) t sorted) ((c.loop-put.invariant t).right sorted h));
    }

pub returns : goal.returns
returns c t =
    let puts = c.args.puts.now in
    let at = c.loop-put.put-index in
    subst (λ ps. CountsOn c.args.self.now c.loop-put.self ps t) (take_all at puts (omega (arith, c.loop-put-test.false))) (c.loop-put.invariant t)
