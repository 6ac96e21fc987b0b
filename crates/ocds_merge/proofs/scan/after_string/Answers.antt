use Rattle.ocds_merge.proofs.Names.{◌≡◌, ◌≤◌, ◌∙◌, suc, length, sym, ap, arith, scan, in_string}
use Rattle.ocds_merge.proofs.PlainLaw.{plain_scan}
use Rattle.ocds_merge.proofs.scan.after_string.Goals as goal

pub loop-first-init : goal.loop-first-init
loop-first-init c =
    let p = c.after_plain-left.ensures.passes in
    record { scans = λ n. sym (ap (scan n in_string) p.1 ∙ plain_scan n p.0 c.after_plain-left.result.now p.2); shorter = c.after_plain-left.ensures.shorter }

pub loop-first-preserved : goal.loop-first-preserved
loop-first-preserved c =
    let l = c.loop-first in
    let p = c.after_plain-left-in-Some.ensures.passes in
    let first = c.in-Some.first.now in
    let rest = c.in-Some.rest.now in
    let gone : length l.left.now ≡ suc (length rest) = ap length c.in-Some.ensures.cases.0 in
    let low : length c.after_plain-left-in-Some.result.now ≤ length c.args.text.now =
    omega (arith, gone, l.invariant.shorter, c.after_stop.ensures.shorter, c.after_plain-left-in-Some.ensures.shorter) in
    record {
      scans = λ n. sym (ap (scan n in_string) p.1 ∙ plain_scan n p.0 c.after_plain-left-in-Some.result.now p.2)
          ∙ sym (c.after_stop.ensures.passes c.if-first-eq34.false n)
          ∙ ap (scan n in_string) (sym c.in-Some.ensures.cases.0) ∙ l.invariant.scans n;
      shorter = low;
    }
