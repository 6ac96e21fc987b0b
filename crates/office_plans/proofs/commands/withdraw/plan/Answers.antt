use Rattle.office_plans.proofs.Names.{false, ℕ, ◌≡◌, ◌||◌, ◌∙◌, ap, refl, sym, Withdraw, holds_of, is_late, Tables, is_lacking, lacks_seal, Withdrew, state_after, given_by, reply_text, withdraw_lacks, withdraw_puts, withdraw_rows, withdraw_tests, Asking, WithdrawRows}
use Rattle.office_plans.proofs.Publishing.{IsTested, not_planned, on_rows, puts_on, refused_on, two_looks}
use Rattle.office_plans.proofs.Telling.{fault_told, none_to_tell, refusal_told}
use Rattle.office_plans.proofs.commands.withdraw.plan.Goals as goal

-- The tests of the rule are the tests on the loaded rows.
rule : (asking : Asking) (receipt : ℕ) → IsTested asking (Withdraw receipt) (λ (s : Tables). withdraw_rows s receipt) (λ (rows : WithdrawRows). rows.clock)
    (λ (rows : WithdrawRows) (t : ℕ). withdraw_tests rows t asking.caller.now)
rule asking receipt = record { clock = λ s. refl; tested = λ s. refl }

pub returns-in-Some-clause-looks : goal.returns-in-Some-clause-looks
returns-in-Some-clause-looks g c publisher =
    let a = c.args in
    not_planned (rule a.asking.now a.receipt) _ _ c.time-t.ensures _ publisher _ _ _ _ c.in_ok-rows.ensures.0 c.requires c.refusal.ensures c.in-Some.is

pub returns-clause-looks : goal.returns-clause-looks
returns-clause-looks g c publisher =
    let a = c.args in
    let ruled = rule a.asking.now a.receipt in
    let moment = c.time-t.ensures in
    two_looks _ c.looks_follow.ensures _ _ _ _ _ _ c.in_ok-rows.ensures.0 c.in_ok-broken.ensures.0
    (λ s are broken.
    let allowed = refused_on ruled _ _ moment _ c.requires c.refusal.ensures s are ∙ c.in_default.is in
    let there = sym (ap withdraw_lacks are) ∙ c.in_ok-puts.ensures.whole in
    let found = sym (broken ∙ ap (λ (rows : WithdrawRows). holds_of (lacks_seal s) rows.envelope) are) ∙ c.if-broken.false in
    let whole : is_lacking (given_by a.asking.now s (Withdraw a.receipt)) ≡ false = λ i. there i || found i in
    let puts = puts_on ruled _ _ moment (λ (rows : WithdrawRows) (t : ℕ). withdraw_puts rows t) _ c.in_ok-puts.ensures.puts s are refl in
    let reply = λ (rows : WithdrawRows) (t : ℕ). reply_text (Withdrew a.receipt (state_after (is_late rows.late t rows.notice) rows.envelope) t) in
    let told = c.in_ok-text.ensures ∙ on_rows ruled _ _ moment reply s are in
    c.silent.ensures publisher (given_by a.asking.now s (Withdraw a.receipt)) tt allowed whole refl refl puts told)

pub returns-in_err-rows-clause-tells : goal.returns-in_err-rows-clause-tells
returns-in_err-rows-clause-tells g c =
    let a = c.args in
    fault_told _ _ _ a.asking.now (Withdraw a.receipt) _ _ c.in_err-rows.ensures.1

pub returns-in-Some-clause-tells : goal.returns-in-Some-clause-tells
returns-in-Some-clause-tells g c =
    let a = c.args in
    refusal_told (rule a.asking.now a.receipt) _ _ c.time-t.ensures _ _ _ c.in_ok-rows.ensures.0 c.requires _ c.refusal.ensures _ c.in-Some.is

pub returns-in_err-broken-clause-tells : goal.returns-in_err-broken-clause-tells
returns-in_err-broken-clause-tells g c =
    let a = c.args in
    none_to_tell (rule a.asking.now a.receipt) _ _ c.time-t.ensures _ _ _ c.in_ok-rows.ensures.0 c.requires _ c.refusal.ensures _ _
    c.in_err-broken.ensures.0.0.before c.in_default.is

pub returns-then-broken-clause-tells : goal.returns-then-broken-clause-tells
returns-then-broken-clause-tells g c =
    let a = c.args in
    none_to_tell (rule a.asking.now a.receipt) _ _ c.time-t.ensures _ _ _ c.in_ok-rows.ensures.0 c.requires _ c.refusal.ensures _ _
    c.in_ok-broken.ensures.0.0.before c.in_default.is

pub returns-in_err-text-clause-tells : goal.returns-in_err-text-clause-tells
returns-in_err-text-clause-tells g c =
    let a = c.args in
    none_to_tell (rule a.asking.now a.receipt) _ _ c.time-t.ensures _ _ _ c.in_ok-rows.ensures.0 c.requires _ c.refusal.ensures _ _
    c.in_ok-broken.ensures.0.0.before c.in_default.is

pub returns-in_err-places-clause-tells : goal.returns-in_err-places-clause-tells
returns-in_err-places-clause-tells g c =
    let a = c.args in
    none_to_tell (rule a.asking.now a.receipt) _ _ c.time-t.ensures _ _ _ c.in_ok-rows.ensures.0 c.requires _ c.refusal.ensures _ _
    c.in_ok-broken.ensures.0.0.before c.in_default.is

pub returns-in_err-puts-clause-tells : goal.returns-in_err-puts-clause-tells
returns-in_err-puts-clause-tells g c =
    let a = c.args in
    none_to_tell (rule a.asking.now a.receipt) _ _ c.time-t.ensures _ _ _ c.in_ok-rows.ensures.0 c.requires _ c.refusal.ensures _ _
    c.in_ok-broken.ensures.0.0.before c.in_default.is

pub returns-clause-tells : goal.returns-clause-tells
returns-clause-tells g c =
    let a = c.args in
    none_to_tell (rule a.asking.now a.receipt) _ _ c.time-t.ensures _ _ _ c.in_ok-rows.ensures.0 c.requires _ c.refusal.ensures _ _
    c.in_ok-broken.ensures.0.0.before c.in_default.is
