use Rattle.office_plans.proofs.Names.{Bool, Option, ℕ, ◌∙◌, ap, refl, examine_lacks, examine_puts, examine_rows, examine_tests, ExamineRows, Examine, Tables, Examined, given_by, reply_text, Asking}
use Rattle.office_plans.proofs.Publishing.{IsTested, not_planned, puts_on, refused_on, time_is, whole_on}
use Rattle.office_plans.proofs.Telling.{fault_told, none_to_tell, refusal_told}
use Rattle.office_plans.proofs.commands.examine.plan.Goals as goal

-- The tests of the rule are the tests on the loaded rows.
rule : (asking : Asking) (receipt : ℕ) (responsive : Bool) (quality : Option ℕ) → IsTested asking (Examine receipt responsive quality) (λ (s : Tables). examine_rows s receipt) (λ (rows : ExamineRows). rows.clock)
    (λ (rows : ExamineRows) (t : ℕ). examine_tests rows responsive quality)
rule asking receipt responsive quality = record { clock = λ s. refl; tested = λ s. refl }

pub returns-in-Some-clause-looks : goal.returns-in-Some-clause-looks
returns-in-Some-clause-looks g c publisher =
    let a = c.args in
    not_planned (rule a.asking.now a.receipt a.responsive a.quality) _ _ c.time-t.ensures _ publisher _ _ _ _ c.in_ok-rows.ensures.0 c.requires c.refusal.ensures c.in-Some.is

pub returns-clause-looks : goal.returns-clause-looks
returns-clause-looks g c publisher =
    let a = c.args in
    let ruled = rule a.asking.now a.receipt a.responsive a.quality in
    let moment = c.time-t.ensures in (
      c.in_ok-rows.ensures.0.0,
      λ honest s held.
          let are = c.in_ok-rows.ensures.0.1 honest s held in
          let allowed = refused_on ruled _ _ moment _ c.requires c.refusal.ensures s are ∙ c.in_default.is in
          let whole = whole_on ruled _ _ moment (λ (rows : ExamineRows). examine_lacks rows) c.in_ok-puts.ensures.whole s are refl in
          let puts = puts_on ruled _ _ moment (λ (rows : ExamineRows) (t : ℕ). examine_puts rows t a.responsive a.quality) _ c.in_ok-puts.ensures.puts s are refl in
          let told = c.in_ok-text.ensures ∙ ap (λ t. reply_text (Examined a.receipt a.responsive t)) (time_is ruled _ _ moment s are) in
          c.silent.ensures publisher (given_by a.asking.now s (Examine a.receipt a.responsive a.quality)) tt allowed whole refl refl puts told,
    )

pub returns-in_err-rows-clause-tells : goal.returns-in_err-rows-clause-tells
returns-in_err-rows-clause-tells g c =
    let a = c.args in
    fault_told _ _ _ a.asking.now (Examine a.receipt a.responsive a.quality) _ _ c.in_err-rows.ensures.1

pub returns-in-Some-clause-tells : goal.returns-in-Some-clause-tells
returns-in-Some-clause-tells g c =
    let a = c.args in
    refusal_told (rule a.asking.now a.receipt a.responsive a.quality) _ _ c.time-t.ensures _ _ _ c.in_ok-rows.ensures.0 c.requires _ c.refusal.ensures _ c.in-Some.is

pub returns-in_err-text-clause-tells : goal.returns-in_err-text-clause-tells
returns-in_err-text-clause-tells g c =
    let a = c.args in
    none_to_tell (rule a.asking.now a.receipt a.responsive a.quality) _ _ c.time-t.ensures _ _ _ c.in_ok-rows.ensures.0 c.requires _ c.refusal.ensures _ _
    (λ honest. honest) c.in_default.is

pub returns-in_err-puts-clause-tells : goal.returns-in_err-puts-clause-tells
returns-in_err-puts-clause-tells g c =
    let a = c.args in
    none_to_tell (rule a.asking.now a.receipt a.responsive a.quality) _ _ c.time-t.ensures _ _ _ c.in_ok-rows.ensures.0 c.requires _ c.refusal.ensures _ _
    (λ honest. honest) c.in_default.is

pub returns-clause-tells : goal.returns-clause-tells
returns-clause-tells g c =
    let a = c.args in
    none_to_tell (rule a.asking.now a.receipt a.responsive a.quality) _ _ c.time-t.ensures _ _ _ c.in_ok-rows.ensures.0 c.requires _ c.refusal.ensures _ _
    (λ honest. honest) c.in_default.is
