use Rattle.office_sums.proofs.Names.{take, sym, subst, arith, take_all, after_puts, KnowsRows}
use Rattle.office_sums.proofs.LastLots.{after_more}
use Rattle.office_sums.proofs.found.Found.follow.Goals as goal

pub loop-put-preserved : goal.loop-put-preserved
loop-put-preserved c t h =
    let puts = c.args.puts.now in
    let at = c.loop-put.put-index in
    subst (KnowsRows c.follow_one.new.self) (sym (after_more t puts at c.put-item.result _ c.put-item.is c.loop-put-test.true))
    (c.follow_one.ensures (after_puts (take at puts) t) (c.loop-put.invariant t h))

pub returns : goal.returns
returns c t h =
    let puts = c.args.puts.now in
    let at = c.loop-put.put-index in
    subst (λ ps. KnowsRows c.loop-put.self (after_puts ps t)) (take_all at puts (omega (arith, c.loop-put-test.false))) (c.loop-put.invariant t h)
