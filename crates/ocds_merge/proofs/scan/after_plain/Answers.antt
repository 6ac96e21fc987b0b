use Rattle.ocds_merge.proofs.Names.{◌<◌, arith, sym, subst, List, ℕ, length, take, take_more, AllStandForThemselves}
use Rattle.ocds_merge.proofs.PlainLaw.{all_push}
use Rattle.ocds_merge.proofs.scan.after_plain.Goals as goal

pub loop-at-preserved : goal.loop-at-preserved
loop-at-preserved c =
    let low : c.loop-at.at < length c.args.text.now = omega arith in
    subst (λ (s : List ℕ). AllStandForThemselves s) (sym (take_more c.args.text.now c.loop-at.at 0 low))
    (all_push (take c.loop-at.at c.args.text.now) _ c.loop-at.invariant c.if-not-is_plain.ensures)
