use Rattle.ocds_merge.proofs.Names.{◌<◌, arith, length, digits_more}
use Rattle.ocds_merge.proofs.readable.digit_count.Goals as goal

pub loop-at-preserved : goal.loop-at-preserved
loop-at-preserved c =
    let low : c.loop-at.at < length c.args.text.now = omega arith in
    digits_more 10 c.args.text.now c.loop-at.at low c.loop-at.invariant c.if-not-is_digit.ensures
