use Rattle.office_plans.proofs.Names.{List, [], filter, map, max, ℕ, ◌∙◌, ap, refl, sym, Cancel, Tables, lots_of_notice, time_of, given_by, cancel_named, lines_named, cancel_on, cancel_lacks, cancel_puts, cancel_rows, cancel_tests, is_open_lot, Asking, CancelRows}
use Rattle.office_plans.proofs.NamedLines.{lines_agree}
use Rattle.office_plans.proofs.Numbered.{numbered_notice}
use Rattle.office_plans.proofs.Publishing.{IsTested, not_planned, puts_on, refused_on, three_looks, whole_on}
use Rattle.office_plans.proofs.Telling.{fault_told, none_to_tell, refusal_told}
use Rattle.office_plans.proofs.commands.cancel.plan.Goals as goal
use Rattle.office_plans.specs.Named.{line_of_lot}

-- The tests of the rule are the tests on the loaded rows, with the lines of the open lots or without any line.
refused : (asking : Asking) (notice : List ℕ) (rationale : List ℕ)
    → IsTested asking (Cancel notice rationale) (λ (s : Tables). cancel_on [] (cancel_rows s notice)) (λ (rows : CancelRows). rows.clock)
    (λ (rows : CancelRows) (t : ℕ). cancel_tests rows)
refused asking notice rationale = record { clock = λ s. refl; tested = λ s. refl }

decided : (asking : Asking) (notice : List ℕ) (rationale : List ℕ)
    → IsTested asking (Cancel notice rationale) (λ (s : Tables). cancel_named s notice) (λ (rows : CancelRows). rows.clock)
    (λ (rows : CancelRows) (t : ℕ). cancel_tests rows)
decided asking notice rationale = record { clock = λ s. refl; tested = λ s. refl }

pub returns-in-Some-clause-looks : goal.returns-in-Some-clause-looks
returns-in-Some-clause-looks g c =
    let a = c.args in
    not_planned (refused a.asking.now a.notice a.rationale) _ _ c.time-t.ensures _ a.publisher.now _ _ _ _ c.in_ok-found.ensures.0 c.requires c.refusal.ensures c.in-Some.is

pub returns-clause-looks : goal.returns-clause-looks
returns-clause-looks g c =
    let a = c.args in
    let moment = c.time-t.ensures in
    three_looks _ c.looks_follow.ensures _ _ _ _ _ _ _ _ c.in_ok-found.ensures.0 c.in_ok-rows.ensures c.published.ensures
    (λ s are filled joined.
    let allowed = refused_on (refused a.asking.now a.notice a.rationale) _ _ moment _ c.requires c.refusal.ensures s are ∙ c.in_default.is in
    let lines : CancelRows → CancelRows = λ rows. cancel_on (lines_named s (map line_of_lot (filter is_open_lot rows.lots))) rows in
    let named = filled ∙ ap lines are in
    let later = moment ∙ ap (λ (rows : CancelRows). max a.asking.now.moment rows.clock.moment) (sym filled) in
    let whole = whole_on (decided a.asking.now a.notice a.rationale) _ _ later (λ (rows : CancelRows). cancel_lacks rows) c.in_ok-puts.ensures.whole s named
    (sym (c.cancels_agree.ensures.lacks (lines_named s (map line_of_lot (filter is_open_lot (lots_of_notice a.notice s)))) s.lines (cancel_rows s a.notice)
    (lines_agree c.rows_are_kept.ensures s line_of_lot (filter is_open_lot (lots_of_notice a.notice s))))) in
    let puts = puts_on (decided a.asking.now a.notice a.rationale) _ _ later (λ (rows : CancelRows) (t : ℕ). cancel_puts rows t) _ c.in_ok-puts.ensures.puts s named
    (sym (c.cancels_agree.ensures.puts (lines_named s (map line_of_lot (filter is_open_lot (lots_of_notice a.notice s)))) s.lines (cancel_rows s a.notice)
    (time_of (given_by a.asking.now s (Cancel a.notice a.rationale))) (lines_agree c.rows_are_kept.ensures s line_of_lot (filter is_open_lot (lots_of_notice a.notice s))))) in
    let made = c.in_ok-release.ensures.release s named in
    joined (given_by a.asking.now s (Cancel a.notice a.rationale)) refl tt allowed whole puts
    (c.in_ok-text.ensures s (numbered_notice made a.notice refl) (ap (λ (rows : CancelRows). rows.clock) named)) made)

pub returns-in_err-found-clause-tells : goal.returns-in_err-found-clause-tells
returns-in_err-found-clause-tells g c =
    let a = c.args in
    fault_told _ _ _ a.asking.now (Cancel a.notice a.rationale) _ _ c.in_err-found.ensures.1

pub returns-in-Some-clause-tells : goal.returns-in-Some-clause-tells
returns-in-Some-clause-tells g c =
    let a = c.args in
    refusal_told (refused a.asking.now a.notice a.rationale) _ _ c.time-t.ensures _ _ _ c.in_ok-found.ensures.0 c.requires _ c.refusal.ensures _ c.in-Some.is

pub returns-in_err-rows-clause-tells : goal.returns-in_err-rows-clause-tells
returns-in_err-rows-clause-tells g c =
    let a = c.args in
    none_to_tell (refused a.asking.now a.notice a.rationale) _ _ c.time-t.ensures _ _ _ c.in_ok-found.ensures.0 c.requires _ c.refusal.ensures _ _
    c.in_err-rows.ensures.0.before c.in_default.is

pub returns-in_err-release-clause-tells : goal.returns-in_err-release-clause-tells
returns-in_err-release-clause-tells g c =
    let a = c.args in
    none_to_tell (refused a.asking.now a.notice a.rationale) _ _ c.time-t.ensures _ _ _ c.in_ok-found.ensures.0 c.requires _ c.refusal.ensures _ _
    c.in_ok-rows.ensures.0.before c.in_default.is

pub returns-in_err-text-clause-tells : goal.returns-in_err-text-clause-tells
returns-in_err-text-clause-tells g c =
    let a = c.args in
    none_to_tell (refused a.asking.now a.notice a.rationale) _ _ c.time-t.ensures _ _ _ c.in_ok-found.ensures.0 c.requires _ c.refusal.ensures _ _
    c.in_ok-rows.ensures.0.before c.in_default.is

pub returns-in_err-puts-clause-tells : goal.returns-in_err-puts-clause-tells
returns-in_err-puts-clause-tells g c =
    let a = c.args in
    none_to_tell (refused a.asking.now a.notice a.rationale) _ _ c.time-t.ensures _ _ _ c.in_ok-found.ensures.0 c.requires _ c.refusal.ensures _ _
    c.in_ok-rows.ensures.0.before c.in_default.is

pub returns-clause-tells : goal.returns-clause-tells
returns-clause-tells g c =
    let a = c.args in
    none_to_tell (refused a.asking.now a.notice a.rationale) _ _ c.time-t.ensures _ _ _ c.in_ok-found.ensures.0 c.requires _ c.refusal.ensures _ _
    (λ honest. c.in_ok-rows.ensures.0.before (c.published.ensures.0.before honest)) c.in_default.is
