use Rattle.office_plans.proofs.Names.{Bool, List, Option, false, is_some, ℕ, ◌≡◌, ◌+◌, ◌&&◌, ◌||◌, ◌∙◌, ap, refl, sym, award_lacks, award_puts, award_tests, winner, AwardRows, Award, Tables, award_at, EnvelopeRow, is_lacking, time_of, award_is_taken, OfAward, is_named, given_by, awarded_rows, Asking}
use Rattle.office_plans.proofs.AwardedLots.{same_puts}
use Rattle.office_plans.proofs.Numbered.{numbered_notice}
use Rattle.office_plans.proofs.Publishing.{IsTested, four_looks, not_planned, puts_on, refused_on}
use Rattle.office_plans.proofs.Telling.{fault_told, none_to_tell, refusal_told}
use Rattle.office_plans.proofs.commands.award.plan.Goals as goal

-- The tests of the rule are the tests on the loaded rows.
rule : (asking : Asking) (notice : List ℕ) (lot : List ℕ) → IsTested asking (Award notice lot) (λ (s : Tables). awarded_rows s notice lot) (λ (rows : AwardRows). rows.clock)
    (λ (rows : AwardRows) (t : ℕ). award_tests rows t)
rule asking notice lot = record { clock = λ s. refl; tested = λ s. refl }

-- No award has the next number, as the look-up says.
is_new : (notice lot : List ℕ) (s : Tables) (rows : AwardRows) → rows ≡ awarded_rows s notice lot → (best : Option EnvelopeRow) → best ≡ winner rows.notice rows.envelopes → (taken : Bool)
    → taken ≡ (is_some best && (is_some (award_at (rows.clock.awards + 1) s) || is_named (OfAward (rows.clock.awards + 1)) s)) → taken ≡ false → award_is_taken notice lot s ≡ false
is_new notice lot s rows are best is taken found none =
    let by = λ (rows : AwardRows). is_some (winner rows.notice rows.envelopes) && (is_some (award_at (rows.clock.awards + 1) s) || is_named (OfAward (rows.clock.awards + 1)) s) in
    sym (found ∙ ap (λ (o : Option EnvelopeRow). is_some o && (is_some (award_at (rows.clock.awards + 1) s) || is_named (OfAward (rows.clock.awards + 1)) s)) is ∙ ap by are) ∙ none

pub returns-in-Some-clause-looks : goal.returns-in-Some-clause-looks
returns-in-Some-clause-looks g c =
    let a = c.args in
    not_planned (rule a.asking.now a.notice a.lot) _ _ c.time-t.ensures _ a.publisher.now _ _ _ _ c.in_ok-rows.ensures.0 c.requires c.refusal.ensures c.in-Some.is

pub returns-clause-looks : goal.returns-clause-looks
returns-clause-looks g c =
    let a = c.args in
    let ruled = rule a.asking.now a.notice a.lot in
    let moment = c.time-t.ensures in
    four_looks _ c.looks_follow.ensures _ _ _ _ _ _ _ _ _ _ c.in_ok-rows.ensures.0 c.in_ok-taken.ensures.0 c.in_ok-release.ensures.looks c.published.ensures
    (λ s are taken released joined.
    let allowed = refused_on ruled _ _ moment _ c.requires c.refusal.ensures s are ∙ c.in_default.is in
    let there = sym (ap award_lacks are) ∙ c.in_ok-puts.ensures.whole in
    let new = is_new a.notice a.lot s _ are _ c.best_tender-best.ensures _ taken c.if-taken.false in
    let whole : is_lacking (given_by a.asking.now s (Award a.notice a.lot)) ≡ false = λ i. there i || new i in
    let puts = puts_on ruled _ _ moment (λ (rows : AwardRows) (t : ℕ). award_puts rows t) _ c.in_ok-puts.ensures.puts s are (same_puts a.notice a.lot s (time_of (given_by a.asking.now s (Award a.notice a.lot)))) in
    let made = released are c.best_tender-best.ensures in
    joined (given_by a.asking.now s (Award a.notice a.lot)) refl tt allowed whole puts (c.in_ok-text.ensures s a.notice are c.best_tender-best.ensures (numbered_notice made a.notice refl)) made)

pub returns-in_err-rows-clause-tells : goal.returns-in_err-rows-clause-tells
returns-in_err-rows-clause-tells g c =
    let a = c.args in
    fault_told _ _ _ a.asking.now (Award a.notice a.lot) _ _ c.in_err-rows.ensures.1

pub returns-in-Some-clause-tells : goal.returns-in-Some-clause-tells
returns-in-Some-clause-tells g c =
    let a = c.args in
    refusal_told (rule a.asking.now a.notice a.lot) _ _ c.time-t.ensures _ _ _ c.in_ok-rows.ensures.0 c.requires _ c.refusal.ensures _ c.in-Some.is

pub returns-in_err-taken-clause-tells : goal.returns-in_err-taken-clause-tells
returns-in_err-taken-clause-tells g c =
    let a = c.args in
    none_to_tell (rule a.asking.now a.notice a.lot) _ _ c.time-t.ensures _ _ _ c.in_ok-rows.ensures.0 c.requires _ c.refusal.ensures _ _
    c.in_err-taken.ensures.0.0.before c.in_default.is

pub returns-then-taken-clause-tells : goal.returns-then-taken-clause-tells
returns-then-taken-clause-tells g c =
    let a = c.args in
    none_to_tell (rule a.asking.now a.notice a.lot) _ _ c.time-t.ensures _ _ _ c.in_ok-rows.ensures.0 c.requires _ c.refusal.ensures _ _
    c.in_ok-taken.ensures.0.0.before c.in_default.is

pub returns-in_err-release-clause-tells : goal.returns-in_err-release-clause-tells
returns-in_err-release-clause-tells g c =
    let a = c.args in
    none_to_tell (rule a.asking.now a.notice a.lot) _ _ c.time-t.ensures _ _ _ c.in_ok-rows.ensures.0 c.requires _ c.refusal.ensures _ _
    (λ honest. c.in_ok-taken.ensures.0.0.before (c.in_err-release.ensures.looks.0.before honest)) c.in_default.is

pub returns-in_err-text-clause-tells : goal.returns-in_err-text-clause-tells
returns-in_err-text-clause-tells g c =
    let a = c.args in
    none_to_tell (rule a.asking.now a.notice a.lot) _ _ c.time-t.ensures _ _ _ c.in_ok-rows.ensures.0 c.requires _ c.refusal.ensures _ _
    (λ honest. c.in_ok-taken.ensures.0.0.before (c.in_ok-release.ensures.looks.0.before honest)) c.in_default.is

pub returns-in_err-puts-clause-tells : goal.returns-in_err-puts-clause-tells
returns-in_err-puts-clause-tells g c =
    let a = c.args in
    none_to_tell (rule a.asking.now a.notice a.lot) _ _ c.time-t.ensures _ _ _ c.in_ok-rows.ensures.0 c.requires _ c.refusal.ensures _ _
    (λ honest. c.in_ok-taken.ensures.0.0.before (c.in_ok-release.ensures.looks.0.before honest)) c.in_default.is

pub returns-clause-tells : goal.returns-clause-tells
returns-clause-tells g c =
    let a = c.args in
    none_to_tell (rule a.asking.now a.notice a.lot) _ _ c.time-t.ensures _ _ _ c.in_ok-rows.ensures.0 c.requires _ c.refusal.ensures _ _
    (λ honest. c.in_ok-taken.ensures.0.0.before (c.in_ok-release.ensures.looks.0.before (c.published.ensures.0.before honest))) c.in_default.is
