use Rattle.office_plans.proofs.Names.{◌≡◌, List, map, ℕ, None, ◌∙◌, ap, inl, refl, subst, sym, Publish, NewLot, NewNotice, RowsAreKept, Looks, Meaning, Tables, notice_at, line_key, time_of, given_by, line_of_new, lines_named, publish_named, id_cmp, PublishesAgree, publish_puts, publish_rows, publish_tests, Asking, PublishRows}
use Rattle.office_plans.proofs.NamedLines.{lines_agree}
use Rattle.office_plans.proofs.Numbered.{numbered_notice}
use Rattle.office_plans.proofs.Publishing.{IsTested, puts_on, refused_on, three_looks}
use Rattle.office_plans.proofs.commands.publish.plan_new.Goals as goal

-- The tests of the rule are the tests on the loaded rows.
rule : RowsAreKept id_cmp line_key → PublishesAgree → (asking : Asking) (notice : List ℕ) (content : NewNotice) → IsTested asking (Publish notice content) (λ (s : Tables). publish_named s notice content.lots) (λ (rows : PublishRows). rows.clock)
    (λ (rows : PublishRows) (t : ℕ). publish_tests rows t content)
rule kept laws asking notice content = record {
  clock = λ s. refl;
  tested = λ s. sym
      (laws.tests (lines_named s (map line_of_new content.lots)) s.lines (publish_rows s notice) (time_of (given_by asking s (Publish notice content))) content
      (lines_agree kept s line_of_new content.lots));
}

-- The loaded rows are those of a notice that doesn't exist.
abbrev AreNew : PublishRows → List NewLot → Tables → Type 0
AreNew rows lots s = (notice : List ℕ) → notice_at notice s ≡ None → rows ≡ publish_named s notice lots

-- Rows that were loaded by the borrowed lots of a notice are those of its lots.
loaded : {S : Type 0} (M : Meaning S) (a b : S) (rows : PublishRows) (borrowed lots : List NewLot) → borrowed ≡ lots → Looks M a b (AreNew rows borrowed) → Looks M a b (AreNew rows lots)
loaded M a b rows borrowed lots same looked = subst (λ (ls : List NewLot). Looks M a b (AreNew rows ls)) same looked

pub returns-in-Some : goal.returns-in-Some
returns-in-Some g c =
    let a = c.args in
    let looked = loaded _ _ _ _ _ a.content.lots c.as_slice.ensures.value c.in_ok-rows.ensures in
    let ruled = rule c.rows_are_kept.ensures c.publishes_agree.ensures a.asking.now a.notice a.content in
    (looked.0, λ honest s held new. inl (refused_on ruled _ _ c.time-t.ensures _ c.requires c.refusal.ensures s (looked.1 honest s held a.notice new) ∙ c.in-Some.is))

pub returns : goal.returns
returns g c =
    let a = c.args in
    let ruled = rule c.rows_are_kept.ensures c.publishes_agree.ensures a.asking.now a.notice a.content in
    let moment = c.time-t.ensures in
    let looked = loaded _ _ _ _ _ a.content.lots c.as_slice.ensures.value c.in_ok-rows.ensures in
    three_looks _ c.looks_follow.ensures _ _ _ _ _ _ _ _ looked c.in_ok-found.ensures.0 c.published.ensures
    (λ s load found joined new.
    let are = load a.notice new in
    let allowed = refused_on ruled _ _ moment _ c.requires c.refusal.ensures s are ∙ c.in_default.is in
    let puts = puts_on ruled _ _ moment (λ (rows : PublishRows) (t : ℕ). publish_puts rows t a.notice a.content) _ c.in_ok-puts.ensures.puts s are
    (sym (c.publishes_agree.ensures.puts (lines_named s (map line_of_new a.content.lots)) s.lines (publish_rows s a.notice)
    (time_of (given_by a.asking.now s (Publish a.notice a.content))) a.notice a.content (lines_agree c.rows_are_kept.ensures s line_of_new a.content.lots))) in
    let made = c.in_ok-release.ensures.release s are in
    joined (given_by a.asking.now s (Publish a.notice a.content)) refl c.as_slice.ensures.differ allowed (sym found ∙ c.if-found.false) puts (c.in_ok-text.ensures s (numbered_notice made a.notice refl) (ap (λ (rows : PublishRows). rows.clock) are)) made)
