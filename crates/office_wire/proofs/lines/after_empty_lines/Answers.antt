use Rattle.office_wire.proofs.Names.{arith, sym, ap, ◌∙◌, ◌-◌, length, drop, inl, inr, take_all, drop_all, length-drop, skip_empty}
use Rattle.office_wire.proofs.lines.after_empty_lines.Goals.{else-bytes-at-eq13-via-then-bytes-at-eq13+then-at-bytes+else-bytes-at-eq10-2, else-bytes-at-eq13-via-then-bytes-at-eq13+else-at-bytes, else-bytes-at-eq13-via-else-bytes-at-eq13}
use Rattle.office_wire.proofs.HeadLemmas.{skip_stop, skip_at_lf, skip_at_crlf}
use Rattle.office_wire.proofs.lines.after_empty_lines.Goals as goal

pub loop-at-preserved-then-bytes-at-eq10 : goal.loop-at-preserved-then-bytes-at-eq10
loop-at-preserved-then-bytes-at-eq10 c = record {
  within = omega arith;
  same = skip_at_lf c.args.bytes.now c.loop-at.at c.loop-at-test.true c.if-bytes-at-eq10.true ∙ c.loop-at.invariant.same;
}

pub loop-at-preserved : goal.loop-at-preserved
loop-at-preserved c = record {
  within = omega arith;
  same = skip_at_crlf c.args.bytes.now c.loop-at.at c.if-at-bytes.true c.if-bytes-at-eq13.true c.if-bytes-at-eq10-2.true ∙ c.loop-at.invariant.same;
}

pub returns-else-bytes-at-eq13 : goal.returns-else-bytes-at-eq13
returns-else-bytes-at-eq13 c =
    let xs = c.args.bytes.now in
    let at = c.loop-at.at in
    let len = length-drop at xs in
    let stop = skip_stop xs at c.loop-at-test.true c.if-bytes-at-eq10.false (elim c.else-bytes-at-eq13.branch [
      | else-bytes-at-eq13-via-then-bytes-at-eq13+then-at-bytes+else-bytes-at-eq10-2 w ↦ inr (inr w.if-bytes-at-eq10-2.false)
      | else-bytes-at-eq13-via-then-bytes-at-eq13+else-at-bytes w ↦ inr (inl w.if-at-bytes.false)
      | else-bytes-at-eq13-via-else-bytes-at-eq13 w ↦ inl w.if-bytes-at-eq13.false
    ]) in
    take_all (length xs - at) (drop at xs) (omega arith) ∙ (stop ∙ c.loop-at.invariant.same)

pub returns : goal.returns
unfolding skip_empty
returns c = ap skip_empty (sym (drop_all c.loop-at.at c.args.bytes.now c.loop-at-test.false)) ∙ c.loop-at.invariant.same
