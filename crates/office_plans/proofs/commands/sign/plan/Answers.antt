use Rattle.office_plans.proofs.Names.{Bool, Option, true, false, ℕ, ◌≡◌, ◌||◌, ◌∙◌, ap, refl, sym, sign_lacks, sign_puts, sign_rows, sign_tests, SignRows, Sign, NamedSecurity, holds_of, envelope_of_award, lot_of_award, Tables, award_at, is_lacking, contract_is_taken, lacks_its_security, reserves_another, given_by, option_copied, Asking}
use Rattle.office_plans.proofs.Numbered.{numbered_award}
use Rattle.office_plans.proofs.Publishing.{IsTested, four_looks, not_planned, puts_on, refused_on}
use Rattle.office_plans.proofs.Telling.{fault_told, none_to_tell, refusal_told}
use Rattle.office_plans.proofs.commands.sign.plan.Goals as goal

-- The tests of the rule are the tests on the loaded rows.
rule : (asking : Asking) (award : ℕ) (security : Option NamedSecurity) → IsTested asking (Sign award security) (λ (s : Tables). sign_rows s award) (λ (rows : SignRows). rows.clock)
    (λ (rows : SignRows) (t : ℕ). sign_tests rows t security)
rule asking award security = record { clock = λ s. refl; tested = λ s. refl }

four_grouped : (a b d e : Bool) → (((a || b) || d) || e) ≡ (a || (b || (d || e)))
four_grouped true b d e = refl
four_grouped false true d e = refl
four_grouped false false d e = refl

pub returns-in-Some-clause-looks : goal.returns-in-Some-clause-looks
returns-in-Some-clause-looks g c =
    let a = c.args in
    not_planned (rule a.asking.now a.award a.security) _ _ c.time-t.ensures _ a.publisher.now _ _ _ _ c.in_ok-rows.ensures.0 c.requires c.refusal.ensures c.in-Some.is

pub returns-clause-looks : goal.returns-clause-looks
returns-clause-looks g c =
    let a = c.args in
    let ruled = rule a.asking.now a.award a.security in
    let moment = c.time-t.ensures in
    four_looks _ c.looks_follow.ensures _ _ _ _ _ _ _ _ _ _ c.in_ok-rows.ensures.0 c.in_ok-taken.ensures.0 c.in_ok-release.ensures.looks c.published.ensures
    (λ s are taken released joined.
    let allowed = refused_on ruled _ _ moment _ c.requires c.refusal.ensures s are ∙ c.in_default.is in
    let there = sym (ap sign_lacks are) ∙ c.in_ok-puts.ensures.whole in
    let new = sym (taken ∙ ap (λ (rows : SignRows). contract_is_taken a.award s || (holds_of (lacks_its_security s) rows.envelope || holds_of (reserves_another rows.lot) rows.award)) are) ∙ c.if-taken.false in
    let whole : is_lacking (given_by a.asking.now s (Sign a.award a.security)) ≡ false =
    four_grouped (sign_lacks (sign_rows s a.award)) (contract_is_taken a.award s) (holds_of (lacks_its_security s) (envelope_of_award (award_at a.award s) s))
    (holds_of (reserves_another (lot_of_award (award_at a.award s) s)) (award_at a.award s))
    ∙ (λ i. there i || new i) in
    let puts = puts_on ruled _ _ moment (λ (rows : SignRows) (t : ℕ). sign_puts rows t a.security) _ c.in_ok-puts.ensures.puts s are refl in
    let row = sym c.as_ref.ensures.value ∙ ap option_copied c.unwrap-row.ensures in
    let made = released a.award a.security are row in
    joined (given_by a.asking.now s (Sign a.award a.security)) refl tt allowed whole puts (c.in_ok-text.ensures s a.security are (numbered_award made (award_at a.award s) refl)) made)

pub returns-in_err-rows-clause-tells : goal.returns-in_err-rows-clause-tells
returns-in_err-rows-clause-tells g c =
    let a = c.args in
    fault_told _ _ _ a.asking.now (Sign a.award a.security) _ _ c.in_err-rows.ensures.1

pub returns-in-Some-clause-tells : goal.returns-in-Some-clause-tells
returns-in-Some-clause-tells g c =
    let a = c.args in
    refusal_told (rule a.asking.now a.award a.security) _ _ c.time-t.ensures _ _ _ c.in_ok-rows.ensures.0 c.requires _ c.refusal.ensures _ c.in-Some.is

pub returns-in_err-taken-clause-tells : goal.returns-in_err-taken-clause-tells
returns-in_err-taken-clause-tells g c =
    let a = c.args in
    none_to_tell (rule a.asking.now a.award a.security) _ _ c.time-t.ensures _ _ _ c.in_ok-rows.ensures.0 c.requires _ c.refusal.ensures _ _
    c.in_err-taken.ensures.0.0.before c.in_default.is

pub returns-then-taken-clause-tells : goal.returns-then-taken-clause-tells
returns-then-taken-clause-tells g c =
    let a = c.args in
    none_to_tell (rule a.asking.now a.award a.security) _ _ c.time-t.ensures _ _ _ c.in_ok-rows.ensures.0 c.requires _ c.refusal.ensures _ _
    c.in_ok-taken.ensures.0.0.before c.in_default.is

pub returns-in_err-release-clause-tells : goal.returns-in_err-release-clause-tells
returns-in_err-release-clause-tells g c =
    let a = c.args in
    none_to_tell (rule a.asking.now a.award a.security) _ _ c.time-t.ensures _ _ _ c.in_ok-rows.ensures.0 c.requires _ c.refusal.ensures _ _
    (λ honest. c.in_ok-taken.ensures.0.0.before (c.in_err-release.ensures.looks.0.before honest)) c.in_default.is

pub returns-in_err-text-clause-tells : goal.returns-in_err-text-clause-tells
returns-in_err-text-clause-tells g c =
    let a = c.args in
    none_to_tell (rule a.asking.now a.award a.security) _ _ c.time-t.ensures _ _ _ c.in_ok-rows.ensures.0 c.requires _ c.refusal.ensures _ _
    (λ honest. c.in_ok-taken.ensures.0.0.before (c.in_ok-release.ensures.looks.0.before honest)) c.in_default.is

pub returns-in_err-places-clause-tells : goal.returns-in_err-places-clause-tells
returns-in_err-places-clause-tells g c =
    let a = c.args in
    none_to_tell (rule a.asking.now a.award a.security) _ _ c.time-t.ensures _ _ _ c.in_ok-rows.ensures.0 c.requires _ c.refusal.ensures _ _
    (λ honest. c.in_ok-taken.ensures.0.0.before (c.in_ok-release.ensures.looks.0.before honest)) c.in_default.is

pub returns-in_err-puts-clause-tells : goal.returns-in_err-puts-clause-tells
returns-in_err-puts-clause-tells g c =
    let a = c.args in
    none_to_tell (rule a.asking.now a.award a.security) _ _ c.time-t.ensures _ _ _ c.in_ok-rows.ensures.0 c.requires _ c.refusal.ensures _ _
    (λ honest. c.in_ok-taken.ensures.0.0.before (c.in_ok-release.ensures.looks.0.before honest)) c.in_default.is

pub returns-clause-tells : goal.returns-clause-tells
returns-clause-tells g c =
    let a = c.args in
    none_to_tell (rule a.asking.now a.award a.security) _ _ c.time-t.ensures _ _ _ c.in_ok-rows.ensures.0 c.requires _ c.refusal.ensures _ _
    (λ honest. c.in_ok-taken.ensures.0.0.before (c.in_ok-release.ensures.looks.0.before (c.published.ensures.0.before honest))) c.in_default.is
