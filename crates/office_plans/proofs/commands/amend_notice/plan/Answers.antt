use Rattle.office_plans.proofs.Names.{List, ℕ, ◌∙◌, ap, refl, AmendNotice, Tables, given_by, amend_notice_puts, amend_notice_rows, amend_notice_tests, AmendNoticeRows, Asking}
use Rattle.office_plans.proofs.Numbered.{numbered_notice}
use Rattle.office_plans.proofs.Publishing.{IsTested, not_planned, puts_on, refused_on, two_looks}
use Rattle.office_plans.proofs.Telling.{fault_told, none_to_tell, refusal_told}
use Rattle.office_plans.proofs.commands.amend_notice.plan.Goals as goal

-- The tests of the rule are the tests on the loaded rows.
rule : (asking : Asking) (notice : List ℕ) (deadline : ℕ) (rationale : List ℕ) → IsTested asking (AmendNotice notice deadline rationale) (λ (s : Tables). amend_notice_rows s notice) (λ (rows : AmendNoticeRows). rows.clock)
    (λ (rows : AmendNoticeRows) (t : ℕ). amend_notice_tests rows t deadline)
rule asking notice deadline rationale = record { clock = λ s. refl; tested = λ s. refl }

pub returns-in-Some-clause-looks : goal.returns-in-Some-clause-looks
returns-in-Some-clause-looks g c =
    let a = c.args in
    not_planned (rule a.asking.now a.notice a.deadline a.rationale) _ _ c.time-t.ensures _ a.publisher.now _ _ _ _ c.in_ok-rows.ensures.0 c.requires c.refusal.ensures c.in-Some.is

pub returns-clause-looks : goal.returns-clause-looks
returns-clause-looks g c =
    let a = c.args in
    let ruled = rule a.asking.now a.notice a.deadline a.rationale in
    let moment = c.time-t.ensures in
    two_looks _ c.looks_follow.ensures _ _ _ _ _ _ c.in_ok-rows.ensures.0 c.published.ensures
    (λ s are joined.
    let allowed = refused_on ruled _ _ moment _ c.requires c.refusal.ensures s are ∙ c.in_default.is in
    let puts = puts_on ruled _ _ moment (λ (rows : AmendNoticeRows) (t : ℕ). amend_notice_puts rows t a.deadline) _ c.in_ok-puts.ensures.puts s are refl in
    let made = c.in_ok-release.ensures.release s are in
    joined (given_by a.asking.now s (AmendNotice a.notice a.deadline a.rationale)) refl tt allowed refl puts (c.in_ok-text.ensures s (numbered_notice made a.notice refl) (ap (λ (rows : AmendNoticeRows). rows.clock) are)) made)

pub returns-in_err-rows-clause-tells : goal.returns-in_err-rows-clause-tells
returns-in_err-rows-clause-tells g c =
    let a = c.args in
    fault_told _ _ _ a.asking.now (AmendNotice a.notice a.deadline a.rationale) _ _ c.in_err-rows.ensures.1

pub returns-in-Some-clause-tells : goal.returns-in-Some-clause-tells
returns-in-Some-clause-tells g c =
    let a = c.args in
    refusal_told (rule a.asking.now a.notice a.deadline a.rationale) _ _ c.time-t.ensures _ _ _ c.in_ok-rows.ensures.0 c.requires _ c.refusal.ensures _ c.in-Some.is

pub returns-in_err-release-clause-tells : goal.returns-in_err-release-clause-tells
returns-in_err-release-clause-tells g c =
    let a = c.args in
    none_to_tell (rule a.asking.now a.notice a.deadline a.rationale) _ _ c.time-t.ensures _ _ _ c.in_ok-rows.ensures.0 c.requires _ c.refusal.ensures _ _
    (λ honest. honest) c.in_default.is

pub returns-in_err-text-clause-tells : goal.returns-in_err-text-clause-tells
returns-in_err-text-clause-tells g c =
    let a = c.args in
    none_to_tell (rule a.asking.now a.notice a.deadline a.rationale) _ _ c.time-t.ensures _ _ _ c.in_ok-rows.ensures.0 c.requires _ c.refusal.ensures _ _
    (λ honest. honest) c.in_default.is

pub returns-in_err-puts-clause-tells : goal.returns-in_err-puts-clause-tells
returns-in_err-puts-clause-tells g c =
    let a = c.args in
    none_to_tell (rule a.asking.now a.notice a.deadline a.rationale) _ _ c.time-t.ensures _ _ _ c.in_ok-rows.ensures.0 c.requires _ c.refusal.ensures _ _
    (λ honest. honest) c.in_default.is

pub returns-clause-tells : goal.returns-clause-tells
returns-clause-tells g c =
    let a = c.args in
    none_to_tell (rule a.asking.now a.notice a.deadline a.rationale) _ _ c.time-t.ensures _ _ _ c.in_ok-rows.ensures.0 c.requires _ c.refusal.ensures _ _
    c.published.ensures.0.before c.in_default.is
