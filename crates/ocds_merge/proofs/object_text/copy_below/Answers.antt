use Rattle.ocds_merge.proofs.SpliceLaw.{pass_one, none_left, not_below, some_case, none_case, after_shorter}
use Rattle.ocds_merge.proofs.PassLaw.{member_read}
use Rattle.ocds_merge.proofs.object_text.copy_below.Goals as goal

pub returns-then-not-is_above-clause-copies : goal.returns-then-not-is_above-clause-copies
returns-then-not-is_above-clause-copies c d ms ts rest st ab =
    let p = c.loop-member.invariant.copies d ms ts rest st ab in
    let m = c.in-Some.member in
    let e = some_case _ _ c.in_ok-member.field-0 m c.in-Some.is c.in_ok-member.ensures.finds in
    (p, not_below c.args.name.now c.loop-member.left.text.now p.others rest m.name.now m.whole.now m.value.now p.stand e.0 e.1 e.2 c.if-not-is_above.ensures)

pub loop-member-preserved : goal.loop-member-preserved
loop-member-preserved c =
    let l = c.loop-member in
    let m = c.in-Some.member in
    let e = some_case _ _ c.in_ok-member.field-0 m c.in-Some.is c.in_ok-member.ensures.finds in
    let next = some_case _ _ c.in_ok-member.field-0 m c.in-Some.is c.in_ok-member.ensures.reads in
    record {
      reads = λ rest r. l.invariant.reads rest (member_read l.left.text.now l.left.later l.left.last.now m.name.now m.value.now c.in_ok-rest.rest.now c.args.depth next c.in_ok-rest.ensures.reads rest r);
      copies = λ d ms ts rest st ab.
          pass_one c.args.name.now m.name.now d ms ts rest _ _ l.left.text.now l.out.items l.later m.whole.now m.value.now _ _
          (l.invariant.copies d ms ts rest st ab) ab e.0 e.1 e.2 c.if-not-is_above.ensures c.in_ok-rest.ensures.scans c.in_ok-copy_span.ensures;
    }

pub returns-clause-copies : goal.returns-clause-copies
returns-clause-copies c d ms ts rest st ab =
    let p = c.loop-member.invariant.copies d ms ts rest st ab in
    let e = none_case _ _ c.in_ok-member.field-0 c.in_default.is c.in_ok-member.ensures.finds in
    (p, none_left c.args.name.now c.loop-member.left.text.now p.others rest e.0 p.stand e.1)

pub loop-member-smaller : goal.loop-member-smaller
loop-member-smaller c =
    let m = c.in-Some.member in
    let e = some_case _ _ c.in_ok-member.field-0 m c.in-Some.is c.in_ok-member.ensures.finds in
    after_shorter c.loop-member.left.text.now m.whole.now m.name.now m.value.now c.in_ok-rest.rest.now e.0 e.1 c.in_ok-rest.ensures.shorter
