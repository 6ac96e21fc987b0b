use Rattle.office_plans.proofs.Names.{◌≡◌, Some, ◌∙◌, ap, sym, is_some, Publish, used_notice}
use Rattle.office_plans.proofs.Publishing.{two_looks}
use Rattle.office_plans.proofs.Telling.{fault_told, later_told, used_planned, used_told}
use Rattle.office_plans.proofs.UsedFiles.{notice_new, notice_used, none_if, only_notice}
use Rattle.office_plans.proofs.commands.publish.plan.Goals as goal

pub returns-in_err-held-clause-tells : goal.returns-in_err-held-clause-tells
returns-in_err-held-clause-tells g c =
    let a = c.args in
    fault_told _ _ _ a.asking.now (Publish a.notice a.content) _ _ c.in_err-held.ensures.1

pub returns-in_err-why-clause-tells : goal.returns-in_err-why-clause-tells
returns-in_err-why-clause-tells g c =
    let a = c.args in
    later_told _ _ _ _ a.asking.now (Publish a.notice a.content) _ _ c.in_ok-held.ensures.1.counted c.in_err-why.ensures.1

pub returns-then-used-clause-looks : goal.returns-then-used-clause-looks
returns-then-used-clause-looks g c =
    let a = c.args in
    used_planned _ _ _ a.asking.now (Publish a.notice a.content) _
    (two_looks _ c.looks_follow.ensures _ _ _ _ _ _ c.in_ok-held.ensures.0 c.in_ok-why.ensures.0
    (λ s held why.
    notice_used a.asking.now s a.notice a.content c.requires (sym (ap is_some held) ∙ sym c.is_some-used.ensures ∙ c.if-used.true)
    ∙ ap (λ lots. Some (used_notice lots s)) (sym c.as_slice.ensures.value) ∙ ap Some (sym why)))
    a.publisher.now

pub returns-then-used-clause-tells : goal.returns-then-used-clause-tells
returns-then-used-clause-tells g c =
    let a = c.args in
    used_told _ _ _ a.asking.now (Publish a.notice a.content) _
    (two_looks _ c.looks_follow.ensures _ _ _ _ _ _ c.in_ok-held.ensures.0 c.in_ok-why.ensures.0
    (λ s held why.
    notice_used a.asking.now s a.notice a.content c.requires (sym (ap is_some held) ∙ sym c.is_some-used.ensures ∙ c.if-used.true)
    ∙ ap (λ lots. Some (used_notice lots s)) (sym c.as_slice.ensures.value) ∙ ap Some (sym why)))

pub returns-clause-looks : goal.returns-clause-looks
returns-clause-looks g c =
    let a = c.args in
    two_looks _ c.looks_follow.ensures _ _ _ _ _ _ c.in_ok-held.ensures.0 c.plan_new.ensures
    (λ s held planned. planned (sym held ∙ none_if _ (sym c.is_some-used.ensures ∙ c.if-used.false)))

pub returns-clause-tells : goal.returns-clause-tells
returns-clause-tells g c =
    let a = c.args in
    λ honest s held why refused small.
    let is = c.in_ok-held.ensures.0.1 (c.plan_new.ensures.0.before honest) s held in
    absurd (notice_new a.asking.now s a.notice a.content c.requires (sym (ap is_some is) ∙ sym c.is_some-used.ensures ∙ c.if-used.false)
    (refused ∙ ap Some (only_notice a.notice a.content why small)))
