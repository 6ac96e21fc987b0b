use Rattle.office_plans.proofs.Names.{List, ℕ, ◌∙◌, ap, refl, Register, Tables, Enrolled, given_by, reply_text, register_puts, register_rows, register_tests, Asking, RegisterRows}
use Rattle.office_plans.proofs.Publishing.{IsTested, not_planned, puts_on, refused_on, time_is}
use Rattle.office_plans.proofs.Telling.{fault_told, none_to_tell, refusal_told}
use Rattle.office_plans.proofs.commands.register.plan.Goals as goal

-- The tests of the rule are the tests on the loaded rows.
rule : (asking : Asking) (tenderer : List ℕ) (name : List ℕ) (address : List ℕ) (key : List ℕ) → IsTested asking (Register tenderer name address key) (λ (s : Tables). register_rows s tenderer) (λ (rows : RegisterRows). rows.clock)
    (λ (rows : RegisterRows) (t : ℕ). register_tests rows tenderer)
rule asking tenderer name address key = record { clock = λ s. refl; tested = λ s. refl }

pub returns-in-Some-clause-looks : goal.returns-in-Some-clause-looks
returns-in-Some-clause-looks g c publisher =
    let a = c.args in
    not_planned (rule a.asking.now a.tenderer a.name a.address a.key) _ _ c.time-t.ensures _ publisher _ _ _ _ c.in_ok-rows.ensures.0 c.requires c.refusal.ensures c.in-Some.is

pub returns-clause-looks : goal.returns-clause-looks
returns-clause-looks g c publisher =
    let a = c.args in
    let ruled = rule a.asking.now a.tenderer a.name a.address a.key in
    let moment = c.time-t.ensures in (
      c.in_ok-rows.ensures.0.0,
      λ honest s held.
          let are = c.in_ok-rows.ensures.0.1 honest s held in
          let allowed = refused_on ruled _ _ moment _ c.requires c.refusal.ensures s are ∙ c.in_default.is in
          let puts = puts_on ruled _ _ moment (λ (rows : RegisterRows) (t : ℕ). register_puts rows t a.tenderer a.name a.address a.key) _ c.in_ok-puts.ensures.puts s are refl in
          let told = c.in_ok-text.ensures ∙ ap (λ t. reply_text (Enrolled a.tenderer t)) (time_is ruled _ _ moment s are) in
          c.silent.ensures publisher (given_by a.asking.now s (Register a.tenderer a.name a.address a.key)) tt allowed refl refl refl puts told,
    )

pub returns-in_err-rows-clause-tells : goal.returns-in_err-rows-clause-tells
returns-in_err-rows-clause-tells g c =
    let a = c.args in
    fault_told _ _ _ a.asking.now (Register a.tenderer a.name a.address a.key) _ _ c.in_err-rows.ensures.1

pub returns-in-Some-clause-tells : goal.returns-in-Some-clause-tells
returns-in-Some-clause-tells g c =
    let a = c.args in
    refusal_told (rule a.asking.now a.tenderer a.name a.address a.key) _ _ c.time-t.ensures _ _ _ c.in_ok-rows.ensures.0 c.requires _ c.refusal.ensures _ c.in-Some.is

pub returns-in_err-text-clause-tells : goal.returns-in_err-text-clause-tells
returns-in_err-text-clause-tells g c =
    let a = c.args in
    none_to_tell (rule a.asking.now a.tenderer a.name a.address a.key) _ _ c.time-t.ensures _ _ _ c.in_ok-rows.ensures.0 c.requires _ c.refusal.ensures _ _
    (λ honest. honest) c.in_default.is

pub returns-in_err-puts-clause-tells : goal.returns-in_err-puts-clause-tells
returns-in_err-puts-clause-tells g c =
    let a = c.args in
    none_to_tell (rule a.asking.now a.tenderer a.name a.address a.key) _ _ c.time-t.ensures _ _ _ c.in_ok-rows.ensures.0 c.requires _ c.refusal.ensures _ _
    (λ honest. honest) c.in_default.is

pub returns-clause-tells : goal.returns-clause-tells
returns-clause-tells g c =
    let a = c.args in
    none_to_tell (rule a.asking.now a.tenderer a.name a.address a.key) _ _ c.time-t.ensures _ _ _ c.in_ok-rows.ensures.0 c.requires _ c.refusal.ensures _ _
    (λ honest. honest) c.in_default.is
