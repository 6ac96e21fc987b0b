use Rattle.ocds_merge.proofs.Names.{sym, ◌∙◌, true≢false, bytes_eq-Decides}
use Rattle.ocds_merge.proofs.SpliceLaw.{some_case, after_shorter}
use Rattle.ocds_merge.proofs.ListTextLaw.{search_one, found_one}
use Rattle.ocds_merge.proofs.list_text.member_value.Goals as goal

pub returns-then-eq : goal.returns-then-eq
returns-then-eq c ts rest h =
    let m = c.in-Some.member in
    let e = some_case _ _ c.in_ok-member.field-0 m c.in-Some.is c.in_ok-member.ensures in
    found_one c.args.name.now ts rest c.loop-member.left.now m.name.now m.whole.now m.value.now (c.loop-member.invariant ts rest h) e.0 e.1 e.2
    ((bytes_eq-Decides m.name.now c.as_bytes.result.now).0 (sym c.if-eq.ensures) ∙ c.as_bytes.ensures.value)

pub loop-member-smaller : goal.loop-member-smaller
loop-member-smaller c =
    let m = c.in-Some.member in
    let e = some_case _ _ c.in_ok-member.field-0 m c.in-Some.is c.in_ok-member.ensures in
    after_shorter c.loop-member.left.now m.whole.now m.name.now m.value.now c.after_value-left.result.now e.0 e.1 c.after_value-left.ensures.shorter

pub loop-member-preserved : goal.loop-member-preserved
loop-member-preserved c ts rest h =
    let m = c.in-Some.member in
    let e = some_case _ _ c.in_ok-member.field-0 m c.in-Some.is c.in_ok-member.ensures in
    search_one c.args.name.now ts rest c.loop-member.left.now m.name.now m.whole.now m.value.now c.after_value-left.result.now (c.loop-member.invariant ts rest h) e.0 e.1 e.2
    (λ same. absurd (true≢false (sym ((bytes_eq-Decides m.name.now c.as_bytes.result.now).1 (same ∙ sym c.as_bytes.ensures.value)) ∙ sym c.if-eq.ensures))) c.after_value-left.ensures.scans
