use Rattle.office_plans.proofs.Names.{◌≡◌, ℕ, Bool, true, false, not, ◌&&◌, ◌||◌, List, [], ◌∷◌, Option, Some, None, is_some, length, map, option_map, list_any, ◌∙◌, ap, refl, sym, Import, BudgetRow, RowsAreKept, columns_at, columns_of_row, standing_key, standings, Tables, line_at, lots_of_line, LineRow, Standing, id_cmp, AgreeOnRows, ImportsAgree, Asking, is_lacking, time_of, names_lost_line, has_rows, Imported, given_by, import_named, is_of_lost_line, line_of_row, standings_named, reply_text, import_lacks, import_puts, import_rows, import_tests, ImportRows}
use Rattle.office_plans.proofs.Decided.{allows, makes, refuses, told_refused, wholes}
use Rattle.office_plans.proofs.NamedStandings.{standings_agree}
use Rattle.office_plans.proofs.Publishing.{IsTested, puts_on, refused_on, time_is}
use Rattle.office_plans.proofs.commands.import.plan_new.Goals as goal

-- The tests of the rule are the tests on the loaded rows.
rule : RowsAreKept id_cmp standing_key → ImportsAgree → (asking : Asking) (batch : List ℕ) (rows : List BudgetRow)
    → IsTested asking (Import batch rows) (λ (s : Tables). import_named s batch rows) (λ (loaded : ImportRows). loaded.clock) (λ (loaded : ImportRows) (t : ℕ). import_tests loaded)
rule kept laws asking batch rows = record {
  clock = λ s. refl;
  tested = λ s. sym (laws.tests (standings_named s (map line_of_row rows)) (standings s) (import_rows s batch rows) (standings_agree kept laws s rows));
}

-- If the loaded lines name no lost line, then neither do the office's.
none_lost : ImportsAgree → (s : Tables) (m : List Standing) (rows : List BudgetRow) → AgreeOnRows m (standings s) rows → list_any (is_of_lost_line s m) rows ≡ false
    → list_any (names_lost_line s) rows ≡ false
none_lost laws s m [] agree none = refl
none_lost laws s m (row ∷ rows) agree none =
    let same : is_some (columns_at m row.line) ≡ is_some (line_at row.line s) = ap is_some (agree.0 ∙ laws.columns s row.line) ∙ is_some-map (line_at row.line s) in
    let both = neither (is_of_lost_line s m row) (list_any (is_of_lost_line s m) rows) none in
    let here : names_lost_line s row ≡ false = ap (λ (b : Bool). not b && has_rows (lots_of_line row.line s)) (sym same) ∙ both.0 in
    λ i. here i || none_lost laws s m rows agree.1 both.1 i
  where
    is_some-map : (o : Option LineRow) → is_some (option_map columns_of_row o) ≡ is_some o
    is_some-map None = refl
    is_some-map (Some l) = refl

    neither : (b d : Bool) → (b || d) ≡ false → (b ≡ false) × (d ≡ false)
    neither true d e = cc
    neither false d e = (refl, e)

pub returns-in_err-puts-clause-looks : goal.returns-in_err-puts-clause-looks
returns-in_err-puts-clause-looks g c publisher = (
  c.in_ok-loaded.ensures.looks.0,
  λ honest s held new.
      let a = c.args in
      let refused = refused_on (rule c.rows_are_kept.ensures c.imports_agree.ensures a.asking.now a.batch a.rows) _ _ c.time-t.ensures _ c.requires refl s
      (c.in_ok-loaded.ensures.looks.1 honest s held a.batch new) in
      told_refused publisher (given_by a.asking.now s (Import a.batch a.rows)) c.from_residual-in_err-puts.result _ _ c.from_residual-in_err-puts.ensures.1 refused
      (refuses _ _ _ _ c.in_err-puts.ensures),
)

pub returns-clause-looks : goal.returns-clause-looks
returns-clause-looks g c publisher =
    let a = c.args in
    let laws = c.imports_agree.ensures in
    let ruled = rule c.rows_are_kept.ensures laws a.asking.now a.batch a.rows in
    let moment = c.time-t.ensures in (
      c.in_ok-loaded.ensures.looks.0,
      λ honest s held new.
          let are = c.in_ok-loaded.ensures.looks.1 honest s held a.batch new in
          let time = time_of (given_by a.asking.now s (Import a.batch a.rows)) in
          let allowed = refused_on ruled _ _ moment _ c.requires (sym (allows _ _ _ _ c.in_ok-puts.ensures)) s are in
          let agree = standings_agree c.rows_are_kept.ensures laws s a.rows in
          let named = standings_named s (map line_of_row a.rows) in
          let cut = sym (laws.lacks named (standings s) (import_rows s a.batch a.rows) agree) ∙ sym (ap import_lacks are) ∙ wholes _ _ _ _ c.in_ok-puts.ensures in
          let lost = λ (m : List Standing). list_any (is_of_lost_line s m) a.rows in
          let found = ap lost (ap (λ (loaded : ImportRows). loaded.file.lines) (sym are)) ∙ c.in_ok-loaded.ensures.whole.1 honest s held in
          let whole : is_lacking (given_by a.asking.now s (Import a.batch a.rows)) ≡ false = λ i. cut i || none_lost laws s named a.rows agree found i in
          let own =
          sym (laws.puts (standings_named s (map line_of_row a.rows)) (standings s) (import_rows s a.batch a.rows) time a.batch
          (standings_agree c.rows_are_kept.ensures laws s a.rows)) in
          let puts = puts_on ruled _ _ moment (λ (loaded : ImportRows) (t : ℕ). import_puts loaded t a.batch) _ (makes _ _ _ _ c.in_ok-puts.ensures) s are own in
          let count : length c.as_slice.result.now ≡ length a.rows = ap length c.as_slice.ensures in
          let told =
          c.in_ok-text.ensures ∙ ap (λ n. reply_text (Imported a.batch n c.time-t.result)) count
          ∙ ap (λ t. reply_text (Imported a.batch (length a.rows) t)) (time_is ruled _ _ moment s are) in
          c.silent.ensures publisher (given_by a.asking.now s (Import a.batch a.rows)) tt allowed whole refl refl puts told,
    )
