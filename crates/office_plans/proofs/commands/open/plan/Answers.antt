use Rattle.office_plans.proofs.Names.{List, ℕ, ◌∙◌, ap, refl, sym, Open, Tables, notice_at, time_of, office_readings, sealed_tenders, given_by, open_rows, open_tests, opened_with, Asking, OpenRows, OpenedTender}
use Rattle.office_plans.proofs.Numbered.{numbered_notice}
use Rattle.office_plans.proofs.Publishing.{IsTested, both_looks, four_looks, not_planned, puts_on, refused_on}
use Rattle.office_plans.proofs.ReadTenders.{tenders_are}
use Rattle.office_plans.proofs.Telling.{fault_told, none_to_tell, refusal_told}
use Rattle.office_plans.proofs.commands.open.plan.Goals as goal

-- The tests of the rule are the tests on the loaded rows.
rule : (asking : Asking) (notice : List ℕ) → IsTested asking (Open notice) (λ (s : Tables). open_rows s notice) (λ (rows : OpenRows). rows.clock)
    (λ (rows : OpenRows) (t : ℕ). open_tests rows t)
rule asking notice = record { clock = λ s. refl; tested = λ s. refl }

pub returns-in-Some-clause-looks : goal.returns-in-Some-clause-looks
returns-in-Some-clause-looks g c =
    let a = c.args in
    not_planned (rule a.asking.now a.notice) _ _ c.time-t.ensures _ a.publisher.now _ _ _ _ c.in_ok-rows.ensures.0 c.requires c.refusal.ensures c.in-Some.is

pub returns-clause-looks : goal.returns-clause-looks
returns-clause-looks g c =
    let a = c.args in
    let ruled = rule a.asking.now a.notice in
    let moment = c.time-t.ensures in
    four_looks _ c.looks_follow.ensures _ _ _ _ _ _ _ _ _ _ c.in_ok-rows.ensures.0 (both_looks _ _ _ _ _ c.in_ok-tenders.ensures.looks c.in_ok-tenders.ensures.whole) c.in_ok-release.ensures.looks c.published.ensures
    (λ s are read released joined.
    let allowed = refused_on ruled _ _ moment _ c.requires c.refusal.ensures s are ∙ c.in_default.is in
    let time = time_of (given_by a.asking.now s (Open a.notice)) in
    let puts =
    puts_on ruled _ _ moment (λ (rows : OpenRows) (t : ℕ). opened_with rows.clock t rows.notice c.in_ok-tenders.tenders) _ c.in_ok-puts.ensures.puts s are
    (c.readings_are_put.ensures office_readings.read (open_rows s a.notice) time (sealed_tenders a.notice s)
    ∙ ap (λ (ts : List OpenedTender). opened_with s.clock time (notice_at a.notice s) ts) (sym (read.0 ∙ tenders_are a.notice s))) in
    let made = released are (c.as_slice.ensures ∙ read.0) in
    joined (given_by a.asking.now s (Open a.notice)) refl tt allowed read.1 puts (c.in_ok-text.ensures s are (c.as_slice-2.ensures ∙ read.0) (numbered_notice made a.notice refl)) made)

pub returns-in_err-rows-clause-tells : goal.returns-in_err-rows-clause-tells
returns-in_err-rows-clause-tells g c =
    let a = c.args in
    fault_told _ _ _ a.asking.now (Open a.notice) _ _ c.in_err-rows.ensures.1

pub returns-in-Some-clause-tells : goal.returns-in-Some-clause-tells
returns-in-Some-clause-tells g c =
    let a = c.args in
    refusal_told (rule a.asking.now a.notice) _ _ c.time-t.ensures _ _ _ c.in_ok-rows.ensures.0 c.requires _ c.refusal.ensures _ c.in-Some.is

pub returns-in_err-tenders-clause-tells : goal.returns-in_err-tenders-clause-tells
returns-in_err-tenders-clause-tells g c =
    let a = c.args in
    none_to_tell (rule a.asking.now a.notice) _ _ c.time-t.ensures _ _ _ c.in_ok-rows.ensures.0 c.requires _ c.refusal.ensures _ _
    c.in_err-tenders.ensures.looks.0.before c.in_default.is

pub returns-in_err-release-clause-tells : goal.returns-in_err-release-clause-tells
returns-in_err-release-clause-tells g c =
    let a = c.args in
    none_to_tell (rule a.asking.now a.notice) _ _ c.time-t.ensures _ _ _ c.in_ok-rows.ensures.0 c.requires _ c.refusal.ensures _ _
    (λ honest. c.in_ok-tenders.ensures.looks.0.before (c.in_err-release.ensures.looks.0.before honest)) c.in_default.is

pub returns-in_err-text-clause-tells : goal.returns-in_err-text-clause-tells
returns-in_err-text-clause-tells g c =
    let a = c.args in
    none_to_tell (rule a.asking.now a.notice) _ _ c.time-t.ensures _ _ _ c.in_ok-rows.ensures.0 c.requires _ c.refusal.ensures _ _
    (λ honest. c.in_ok-tenders.ensures.looks.0.before (c.in_ok-release.ensures.looks.0.before honest)) c.in_default.is

pub returns-in_err-puts-clause-tells : goal.returns-in_err-puts-clause-tells
returns-in_err-puts-clause-tells g c =
    let a = c.args in
    none_to_tell (rule a.asking.now a.notice) _ _ c.time-t.ensures _ _ _ c.in_ok-rows.ensures.0 c.requires _ c.refusal.ensures _ _
    (λ honest. c.in_ok-tenders.ensures.looks.0.before (c.in_ok-release.ensures.looks.0.before honest)) c.in_default.is

pub returns-clause-tells : goal.returns-clause-tells
returns-clause-tells g c =
    let a = c.args in
    none_to_tell (rule a.asking.now a.notice) _ _ c.time-t.ensures _ _ _ c.in_ok-rows.ensures.0 c.requires _ c.refusal.ensures _ _
    (λ honest. c.in_ok-tenders.ensures.looks.0.before (c.in_ok-release.ensures.looks.0.before (c.published.ensures.0.before honest))) c.in_default.is
