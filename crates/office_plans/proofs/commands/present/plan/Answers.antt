use Rattle.office_plans.proofs.Names.{List, Option, is_some, ℕ, ◌+◌, ◌||◌, slice_get, ◌∙◌, ap, refl, sym, Present, NamedSecurity, holds_of, is_in_time, Tables, envelope_at, Put, time_of, OfReceipt, is_named, received_reply, given_by, own_rows, reply_text, sha256, present_puts, present_tests, received, Asking, PresentRows}
use Rattle.office_plans.proofs.OwnTenders.{own_tests}
use Rattle.office_plans.proofs.Publishing.{IsTested, not_planned, on_rows, puts_on, refused_on, two_looks}
use Rattle.office_plans.proofs.Telling.{fault_told, none_to_tell, refusal_told}
use Rattle.office_plans.proofs.commands.present.plan.Goals as goal

-- The tests of the rule are the tests on the loaded rows.
rule : (asking : Asking) (notice : List ℕ) (lot : List ℕ) (security : Option NamedSecurity) (sealed : List ℕ) → IsTested asking (Present notice lot security sealed) (λ (s : Tables). own_rows asking.caller.now s notice lot) (λ (rows : PresentRows). rows.clock)
    (λ (rows : PresentRows) (t : ℕ). present_tests rows t asking.caller.now security)
rule asking notice lot security sealed = record { clock = λ s. refl; tested = λ s. sym (own_tests asking.caller.now notice lot s (time_of (given_by asking s (Present notice lot security sealed))) security) }

pub returns-in-Some-clause-looks : goal.returns-in-Some-clause-looks
returns-in-Some-clause-looks g c publisher =
    let a = c.args in
    not_planned (rule a.asking.now a.notice a.lot a.security a.sealed) _ _ c.time-t.ensures _ publisher _ _ _ _ c.in_ok-rows.ensures.0 c.requires c.refusal.ensures c.in-Some.is

pub returns-clause-looks : goal.returns-clause-looks
returns-clause-looks g c publisher =
    let a = c.args in
    let ruled = rule a.asking.now a.notice a.lot a.security a.sealed in
    let moment = c.time-t.ensures in
    two_looks _ c.looks_follow.ensures _ _ _ _ _ _ c.in_ok-rows.ensures.0 c.in_ok-taken.ensures.0
    (λ s are taken.
    let allowed = refused_on ruled _ _ moment _ c.requires c.refusal.ensures s are ∙ c.in_default.is in
    let new = sym (taken ∙ ap (λ (rows : PresentRows). is_some (envelope_at (rows.clock.receipts + 1) s) || is_named (OfReceipt (rows.clock.receipts + 1)) s) are) ∙ c.if-taken.false in
    let puts = puts_on ruled _ _ moment (λ (rows : PresentRows) (t : ℕ). present_puts sha256 rows t a.asking.now.caller.now a.notice a.lot a.security a.sealed) _ c.in_ok-puts.ensures.puts s are refl in
    let reply = λ (rows : PresentRows) (t : ℕ).
    reply_text (received_reply (received sha256 rows.clock t a.asking.now.caller.now a.notice a.lot a.security a.sealed (holds_of (is_in_time t) rows.notice))) in
    let first = ap (λ (ps : List Put). slice_get ps 0) (c.as_slice.ensures.value ∙ c.in_ok-puts.ensures.puts) in
    let told = c.in_ok-text.ensures.told _ first ∙ on_rows ruled _ _ moment reply s are in
    c.silent.ensures publisher (given_by a.asking.now s (Present a.notice a.lot a.security a.sealed)) tt allowed new refl refl puts told)

pub returns-in_err-rows-clause-tells : goal.returns-in_err-rows-clause-tells
returns-in_err-rows-clause-tells g c =
    let a = c.args in
    fault_told _ _ _ a.asking.now (Present a.notice a.lot a.security a.sealed) _ _ c.in_err-rows.ensures.1

pub returns-in-Some-clause-tells : goal.returns-in-Some-clause-tells
returns-in-Some-clause-tells g c =
    let a = c.args in
    refusal_told (rule a.asking.now a.notice a.lot a.security a.sealed) _ _ c.time-t.ensures _ _ _ c.in_ok-rows.ensures.0 c.requires _ c.refusal.ensures _ c.in-Some.is

pub returns-in_err-taken-clause-tells : goal.returns-in_err-taken-clause-tells
returns-in_err-taken-clause-tells g c =
    let a = c.args in
    none_to_tell (rule a.asking.now a.notice a.lot a.security a.sealed) _ _ c.time-t.ensures _ _ _ c.in_ok-rows.ensures.0 c.requires _ c.refusal.ensures _ _
    c.in_err-taken.ensures.0.0.before c.in_default.is

pub returns-then-taken-clause-tells : goal.returns-then-taken-clause-tells
returns-then-taken-clause-tells g c =
    let a = c.args in
    none_to_tell (rule a.asking.now a.notice a.lot a.security a.sealed) _ _ c.time-t.ensures _ _ _ c.in_ok-rows.ensures.0 c.requires _ c.refusal.ensures _ _
    c.in_ok-taken.ensures.0.0.before c.in_default.is

pub returns-in_err-puts-clause-tells : goal.returns-in_err-puts-clause-tells
returns-in_err-puts-clause-tells g c =
    let a = c.args in
    none_to_tell (rule a.asking.now a.notice a.lot a.security a.sealed) _ _ c.time-t.ensures _ _ _ c.in_ok-rows.ensures.0 c.requires _ c.refusal.ensures _ _
    c.in_ok-taken.ensures.0.0.before c.in_default.is

pub returns-in_err-text-clause-tells : goal.returns-in_err-text-clause-tells
returns-in_err-text-clause-tells g c =
    let a = c.args in
    none_to_tell (rule a.asking.now a.notice a.lot a.security a.sealed) _ _ c.time-t.ensures _ _ _ c.in_ok-rows.ensures.0 c.requires _ c.refusal.ensures _ _
    c.in_ok-taken.ensures.0.0.before c.in_default.is

pub returns-clause-tells : goal.returns-clause-tells
returns-clause-tells g c =
    let a = c.args in
    none_to_tell (rule a.asking.now a.notice a.lot a.security a.sealed) _ _ c.time-t.ensures _ _ _ c.in_ok-rows.ensures.0 c.requires _ c.refusal.ensures _ _
    c.in_ok-taken.ensures.0.0.before c.in_default.is
