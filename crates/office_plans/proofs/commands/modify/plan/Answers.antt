use Rattle.office_plans.proofs.Names.{◌≡◌, ◌+◌, ◌||◌, List, Option, Some, None, false, is_some, ℕ, slice_get, ◌∙◌, ap, refl, sym, Caller, Modify, first_of, Tables, envelope_at, Put, Envelope, EnvelopeRow, is_lacking, office_readings, is_torn, receipt_is_taken, OfReceipt, is_named, modify_reply, received_reply, given_by, reply_text, sha256, modify_lacks, modify_puts, modify_rows, modify_tests, replacing, Asking, ModifyRows}
use Rattle.office_plans.proofs.Publishing.{IsTested, grouped, not_planned, on_rows, puts_on, refused_on, two_looks}
use Rattle.office_plans.proofs.Telling.{fault_told, none_to_tell, refusal_told}
use Rattle.office_plans.proofs.commands.modify.plan.Goals as goal

-- The tests of the rule are the tests on the loaded rows.
rule : (asking : Asking) (receipt : ℕ) (sealed : List ℕ) → IsTested asking (Modify receipt sealed) (λ (s : Tables). modify_rows s receipt) (λ (rows : ModifyRows). rows.clock)
    (λ (rows : ModifyRows) (t : ℕ). modify_tests rows t asking.caller.now)
rule asking receipt sealed = record { clock = λ s. refl; tested = λ s. refl }

-- The text by the row of the new tender is the reply.
told_of : (rows : ModifyRows) (t : ℕ) (caller : Caller) (sealed text : List ℕ) → first_of (modify_tests rows t caller) ≡ None
    → ((tender : EnvelopeRow) → slice_get (modify_puts sha256 rows t sealed) 2 ≡ Some (Envelope tender) → text ≡ reply_text (received_reply tender))
    → text ≡ reply_text (modify_reply office_readings rows.clock t sealed rows.envelope)
told_of rows t caller sealed text = by rows.envelope
  where
    by : (o : Option EnvelopeRow) → first_of (modify_tests (record rows { envelope = o }) t caller) ≡ None
        → ((tender : EnvelopeRow) → slice_get (modify_puts sha256 (record rows { envelope = o }) t sealed) 2 ≡ Some (Envelope tender) → text ≡ reply_text (received_reply tender))
        → text ≡ reply_text (modify_reply office_readings rows.clock t sealed o)
    by None allowed told = absurd cc
    by (Some e) allowed told = told (replacing sha256 rows.clock t e sealed) refl

pub returns-in-Some-clause-looks : goal.returns-in-Some-clause-looks
returns-in-Some-clause-looks g c publisher =
    let a = c.args in
    not_planned (rule a.asking.now a.receipt a.sealed) _ _ c.time-t.ensures _ publisher _ _ _ _ c.in_ok-rows.ensures.0 c.requires c.refusal.ensures c.in-Some.is

pub returns-clause-looks : goal.returns-clause-looks
returns-clause-looks g c publisher =
    let a = c.args in
    let ruled = rule a.asking.now a.receipt a.sealed in
    let moment = c.time-t.ensures in
    two_looks _ c.looks_follow.ensures _ _ _ _ _ _ c.in_ok-rows.ensures.0 c.in_ok-broken.ensures.0
    (λ s are broken.
    let allowed = refused_on ruled _ _ moment _ c.requires c.refusal.ensures s are ∙ c.in_default.is in
    let there = sym (ap modify_lacks are) ∙ c.in_ok-puts.ensures.whole in
    let found = sym (broken ∙ ap (λ (rows : ModifyRows). (is_some (envelope_at (rows.clock.receipts + 1) s) || is_named (OfReceipt (rows.clock.receipts + 1)) s) || is_torn s rows.envelope) are) ∙ c.if-broken.false in
    let whole : is_lacking (given_by a.asking.now s (Modify a.receipt a.sealed)) ≡ false =
    grouped (modify_lacks (modify_rows s a.receipt)) (receipt_is_taken s) (is_torn s (envelope_at a.receipt s)) ∙ (λ i. there i || found i) in
    let puts = puts_on ruled _ _ moment (λ (rows : ModifyRows) (t : ℕ). modify_puts sha256 rows t a.sealed) _ c.in_ok-puts.ensures.puts s are refl in
    let third = ap (λ (ps : List Put). slice_get ps 2) (c.as_slice.ensures.value ∙ c.in_ok-puts.ensures.puts) in
    let told =
    told_of c.in_ok-rows.rows _ a.asking.now.caller.now a.sealed _ (sym c.refusal.ensures ∙ c.in_default.is) (λ tender at. c.in_ok-text.ensures.told tender (third ∙ at))
    ∙ on_rows ruled _ _ moment (λ (rows : ModifyRows) (t : ℕ). reply_text (modify_reply office_readings rows.clock t a.sealed rows.envelope)) s are in
    c.silent.ensures publisher (given_by a.asking.now s (Modify a.receipt a.sealed)) tt allowed whole refl refl puts told)

pub returns-in_err-rows-clause-tells : goal.returns-in_err-rows-clause-tells
returns-in_err-rows-clause-tells g c =
    let a = c.args in
    fault_told _ _ _ a.asking.now (Modify a.receipt a.sealed) _ _ c.in_err-rows.ensures.1

pub returns-in-Some-clause-tells : goal.returns-in-Some-clause-tells
returns-in-Some-clause-tells g c =
    let a = c.args in
    refusal_told (rule a.asking.now a.receipt a.sealed) _ _ c.time-t.ensures _ _ _ c.in_ok-rows.ensures.0 c.requires _ c.refusal.ensures _ c.in-Some.is

pub returns-in_err-broken-clause-tells : goal.returns-in_err-broken-clause-tells
returns-in_err-broken-clause-tells g c =
    let a = c.args in
    none_to_tell (rule a.asking.now a.receipt a.sealed) _ _ c.time-t.ensures _ _ _ c.in_ok-rows.ensures.0 c.requires _ c.refusal.ensures _ _
    c.in_err-broken.ensures.0.0.before c.in_default.is

pub returns-then-broken-clause-tells : goal.returns-then-broken-clause-tells
returns-then-broken-clause-tells g c =
    let a = c.args in
    none_to_tell (rule a.asking.now a.receipt a.sealed) _ _ c.time-t.ensures _ _ _ c.in_ok-rows.ensures.0 c.requires _ c.refusal.ensures _ _
    c.in_ok-broken.ensures.0.0.before c.in_default.is

pub returns-in_err-puts-clause-tells : goal.returns-in_err-puts-clause-tells
returns-in_err-puts-clause-tells g c =
    let a = c.args in
    none_to_tell (rule a.asking.now a.receipt a.sealed) _ _ c.time-t.ensures _ _ _ c.in_ok-rows.ensures.0 c.requires _ c.refusal.ensures _ _
    c.in_ok-broken.ensures.0.0.before c.in_default.is

pub returns-in_err-text-clause-tells : goal.returns-in_err-text-clause-tells
returns-in_err-text-clause-tells g c =
    let a = c.args in
    none_to_tell (rule a.asking.now a.receipt a.sealed) _ _ c.time-t.ensures _ _ _ c.in_ok-rows.ensures.0 c.requires _ c.refusal.ensures _ _
    c.in_ok-broken.ensures.0.0.before c.in_default.is

pub returns-clause-tells : goal.returns-clause-tells
returns-clause-tells g c =
    let a = c.args in
    none_to_tell (rule a.asking.now a.receipt a.sealed) _ _ c.time-t.ensures _ _ _ c.in_ok-rows.ensures.0 c.requires _ c.refusal.ensures _ _
    c.in_ok-broken.ensures.0.0.before c.in_default.is
