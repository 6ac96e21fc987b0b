use Rattle.ocds_merge.proofs.Names.{sym, ◌∙◌, true≢false, bytes_eq-Decides}
use Rattle.ocds_merge.proofs.SpliceLaw.{some_case}
use Rattle.ocds_merge.proofs.MemberTurn.{value_at, absent_at}
use Rattle.ocds_merge.proofs.object_text.old_member.Goals as goal

pub returns-then-eq-clause-finds : goal.returns-then-eq-clause-finds
returns-then-eq-clause-finds c ts rest h start =
    let m = c.in-Some.member in
    let e = some_case _ _ c.in_ok-member.field-0 m c.in-Some.is c.in_ok-member.ensures.finds in
    value_at c.args.name.now c.args.left.text.now ts rest m.name.now m.whole.now m.value.now h e.0 e.1 e.2
    ((bytes_eq-Decides m.name.now c.as_bytes.result.now).0 (sym c.if-eq.ensures) ∙ c.as_bytes.ensures.value)

pub returns-else-eq-clause-finds : goal.returns-else-eq-clause-finds
returns-else-eq-clause-finds c ts rest h start =
    let m = c.in-Some.member in
    let e = some_case _ _ c.in_ok-member.field-0 m c.in-Some.is c.in_ok-member.ensures.finds in
    absent_at c.args.name.now c.args.left.text.now ts rest m.name.now m.whole.now m.value.now h e.0 e.1 e.2 start
    (λ same. absurd (true≢false (sym ((bytes_eq-Decides m.name.now c.as_bytes.result.now).1 (same ∙ sym c.as_bytes.ensures.value)) ∙ sym c.if-eq.ensures)))
