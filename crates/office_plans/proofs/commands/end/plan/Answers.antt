use Rattle.office_plans.proofs.Names.{ℕ, ◌∙◌, ap, refl, sym, end_lacks, end_puts, end_rows, end_tests, EndRows, End, How, Tables, contract_at, given_by, option_copied, Asking}
use Rattle.office_plans.proofs.Numbered.{numbered_contract}
use Rattle.office_plans.proofs.Publishing.{IsTested, not_planned, puts_on, refused_on, two_looks, whole_on}
use Rattle.office_plans.proofs.Telling.{fault_told, none_to_tell, refusal_told}
use Rattle.office_plans.proofs.commands.end.plan.Goals as goal

-- The tests of the rule are the tests on the loaded rows.
rule : (asking : Asking) (contract : ℕ) (how : How) → IsTested asking (End contract how) (λ (s : Tables). end_rows s contract) (λ (rows : EndRows). rows.clock)
    (λ (rows : EndRows) (t : ℕ). end_tests rows)
rule asking contract how = record { clock = λ s. refl; tested = λ s. refl }

pub returns-in-Some-clause-looks : goal.returns-in-Some-clause-looks
returns-in-Some-clause-looks g c =
    let a = c.args in
    not_planned (rule a.asking.now a.contract a.how) _ _ c.time-t.ensures _ a.publisher.now _ _ _ _ c.in_ok-rows.ensures.0 c.requires c.refusal.ensures c.in-Some.is

pub returns-clause-looks : goal.returns-clause-looks
returns-clause-looks g c =
    let a = c.args in
    let ruled = rule a.asking.now a.contract a.how in
    let moment = c.time-t.ensures in
    two_looks _ c.looks_follow.ensures _ _ _ _ _ _ c.in_ok-rows.ensures.0 c.published.ensures
    (λ s are joined.
    let allowed = refused_on ruled _ _ moment _ c.requires c.refusal.ensures s are ∙ c.in_default.is in
    let whole = whole_on ruled _ _ moment (λ (rows : EndRows). end_lacks rows) c.in_ok-puts.ensures.whole s are refl in
    let puts = puts_on ruled _ _ moment (λ (rows : EndRows) (t : ℕ). end_puts rows t a.how) _ c.in_ok-puts.ensures.puts s are refl in
    let row = sym c.as_ref.ensures.value ∙ ap option_copied c.unwrap-row.ensures in
    let made = c.in_ok-release.ensures.release s a.contract a.how are row in
    joined (given_by a.asking.now s (End a.contract a.how)) refl tt allowed whole puts (c.in_ok-text.ensures.told s a.how are (numbered_contract made (contract_at a.contract s) refl) allowed) made)

pub returns-in_err-rows-clause-tells : goal.returns-in_err-rows-clause-tells
returns-in_err-rows-clause-tells g c =
    let a = c.args in
    fault_told _ _ _ a.asking.now (End a.contract a.how) _ _ c.in_err-rows.ensures.1

pub returns-in-Some-clause-tells : goal.returns-in-Some-clause-tells
returns-in-Some-clause-tells g c =
    let a = c.args in
    refusal_told (rule a.asking.now a.contract a.how) _ _ c.time-t.ensures _ _ _ c.in_ok-rows.ensures.0 c.requires _ c.refusal.ensures _ c.in-Some.is

pub returns-in_err-release-clause-tells : goal.returns-in_err-release-clause-tells
returns-in_err-release-clause-tells g c =
    let a = c.args in
    none_to_tell (rule a.asking.now a.contract a.how) _ _ c.time-t.ensures _ _ _ c.in_ok-rows.ensures.0 c.requires _ c.refusal.ensures _ _
    (λ honest. honest) c.in_default.is

pub returns-in_err-text-clause-tells : goal.returns-in_err-text-clause-tells
returns-in_err-text-clause-tells g c =
    let a = c.args in
    none_to_tell (rule a.asking.now a.contract a.how) _ _ c.time-t.ensures _ _ _ c.in_ok-rows.ensures.0 c.requires _ c.refusal.ensures _ _
    (λ honest. honest) c.in_default.is

pub returns-in_err-places-clause-tells : goal.returns-in_err-places-clause-tells
returns-in_err-places-clause-tells g c =
    let a = c.args in
    none_to_tell (rule a.asking.now a.contract a.how) _ _ c.time-t.ensures _ _ _ c.in_ok-rows.ensures.0 c.requires _ c.refusal.ensures _ _
    (λ honest. honest) c.in_default.is

pub returns-in_err-puts-clause-tells : goal.returns-in_err-puts-clause-tells
returns-in_err-puts-clause-tells g c =
    let a = c.args in
    none_to_tell (rule a.asking.now a.contract a.how) _ _ c.time-t.ensures _ _ _ c.in_ok-rows.ensures.0 c.requires _ c.refusal.ensures _ _
    (λ honest. honest) c.in_default.is

pub returns-clause-tells : goal.returns-clause-tells
returns-clause-tells g c =
    let a = c.args in
    none_to_tell (rule a.asking.now a.contract a.how) _ _ c.time-t.ensures _ _ _ c.in_ok-rows.ensures.0 c.requires _ c.refusal.ensures _ _
    c.published.ensures.0.before c.in_default.is
