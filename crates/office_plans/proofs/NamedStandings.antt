-- Each `Standing` that was looked up by the name of its line is equal to the one in the office.
use Rattle.office_plans.proofs.Names.{◌≡◌, ℕ, Bool, true, false, cond, List, [], ◌∷◌, map, Option, Some, IsSome, is_some, option_and_then, refl, sym, ap, ◌∙◌, subst, eq_by_cmp, Ordering, Less, Equal, Greater, exact_bytes, id_cmp, total_limit, BudgetRow, by_order, row_at, row_put, RowsAreKept, find_standing, put_standing, columns_at, standing_key, standings, Tables, line_at, Columns, Standing, ImportsAgree, AgreeOnRows, IsAtMost, AreAtMost, StillThere, line_of_row, standing_at, with_new_standing, with_standing, with_standings, standings_named}
use Rattle.office_plans.proofs.LookedUp.{equal_from_test}

-- Each line that has a `Standing` here has the columns of the office.
abbrev AreFrom : Tables → List Standing → Type 0
AreFrom t m = (q : List ℕ) → IsSome (find_standing m q) → columns_at m q ≡ columns_at (standings t) q

abbrev columns : Option Standing → Option Columns
columns found = option_and_then (λ (s : Standing). s.columns) found

there_by : (b : Bool) (s : Standing) (found : Option Standing) → is_some found ≡ true → is_some (cond b (Some s) found) ≡ true
there_by true s found h = refl
there_by false s found h = h

fit_step : (s x : Standing) (m : List Standing) → IsAtMost total_limit s.columns → AreAtMost total_limit (x ∷ m) → AreAtMost total_limit (put_standing m s)
    → (c : Ordering) → AreAtMost total_limit (by_order c (s ∷ x ∷ m) (s ∷ m) (x ∷ put_standing m s))
fit_step s x m one all rest Less = (one, all)
fit_step s x m one all rest Equal = (one, all.1)
fit_step s x m one all rest Greater = (all.0, rest)

all_fit : (m : List Standing) (s : Standing) → IsAtMost total_limit s.columns → AreAtMost total_limit m → AreAtMost total_limit (put_standing m s)
unfolding row_put
all_fit [] s one all = (one, tt)
all_fit (x ∷ m) s one all = fit_step s x m one all (all_fit m s one all.1) (id_cmp s.line x.line)

pub fit_put : (m n : List Standing) (s : Standing) → n ≡ put_standing m s → IsAtMost total_limit s.columns → AreAtMost total_limit m → AreAtMost total_limit n
fit_put m n s put one all =
    let family : List Standing → Type 0 = λ x. AreAtMost total_limit x in
    subst family (sym put) (all_fit m s one all)

-- No `Standing` was looked up yet.
none_from : (t : Tables) → AreFrom t []
unfolding row_at
none_from t q there = cc

module _ (laws : RowsAreKept id_cmp standing_key) where
  -- After one more `Standing` is put, every line that had one still has one, and the new line has one.
  pub kept_put : (m n : List Standing) (s : Standing) → n ≡ put_standing m s → StillThere m n
  kept_put m n s put q there =
      ap (λ x. is_some (find_standing x q)) put ∙ ap is_some (laws.found_put m s q) ∙ there_by (eq_by_cmp id_cmp q s.line) s (find_standing m q) there

  pub there_put : (m n : List Standing) (s : Standing) (name : List ℕ) → n ≡ put_standing m s → s.line ≡ name → IsSome (find_standing n name)
  there_put m n s name put same =
      ap (λ x. is_some (find_standing x name)) put
      ∙ ap (λ x. is_some (find_standing (put_standing m s) x)) (sym same)
      ∙ ap is_some (laws.own_found m s)

  module _ (agree : ImportsAgree) (t : Tables) where
    from_by : (m : List Standing) (s : Standing) (q : List ℕ) → s.columns ≡ columns_at (standings t) s.line → AreFrom t m
        → (b : Bool) → eq_by_cmp id_cmp q s.line ≡ b → IsSome (cond b (Some s) (find_standing m q)) → columns (cond b (Some s) (find_standing m q)) ≡ columns_at (standings t) q
    from_by m s q here all true e there =
        let same : q ≡ s.line = exact_bytes q s.line (equal_from_test (id_cmp q s.line) e) in
        here ∙ ap (columns_at (standings t)) (sym same)
    from_by m s q here all false e there = all q there

    from_new : (m : List Standing) (name : List ℕ) → AreFrom t m → AreFrom t (with_new_standing t m name)
    from_new m name all q there =
        let s : Standing = standing_at name (line_at name t) in
        let at : find_standing (put_standing m s) q ≡ cond (eq_by_cmp id_cmp q s.line) (Some s) (find_standing m q) = laws.found_put m s q in
        ap columns at ∙ from_by m s q (sym (agree.columns t name)) all (eq_by_cmp id_cmp q s.line) refl (sym (ap is_some at) ∙ there)

    -- The look-up of one more line, unless its `Standing` is already among them.
    from_one : (m : List Standing) (name : List ℕ) (b : Bool) → AreFrom t m → AreFrom t (cond b m (with_new_standing t m name))
    from_one m name true all = all
    from_one m name false all = from_new m name all

    kept_one : (m : List Standing) (name : List ℕ) (b : Bool) → StillThere m (cond b m (with_new_standing t m name))
    kept_one m name true q there = there
    kept_one m name false q there = kept_put m _ (standing_at name (line_at name t)) refl q there

    there_one : (m : List Standing) (name : List ℕ) (b : Bool) → is_some (find_standing m name) ≡ b → IsSome (find_standing (cond b m (with_new_standing t m name)) name)
    there_one m name true e = e
    there_one m name false e = there_put m _ (standing_at name (line_at name t)) name refl refl

    from_all : (rows : List BudgetRow) (m : List Standing) → AreFrom t m → AreFrom t (with_standings t m (map line_of_row rows))
    from_all [] m all = all
    from_all (row ∷ rows) m all = from_all rows (with_standing t m row.line) (from_one m row.line (is_some (find_standing m row.line)) all)

    kept_all : (rows : List BudgetRow) (m : List Standing) → StillThere m (with_standings t m (map line_of_row rows))
    kept_all [] m q there = there
    kept_all (row ∷ rows) m q there = kept_all rows (with_standing t m row.line) q (kept_one m row.line (is_some (find_standing m row.line)) q there)

    agree_all : (rows : List BudgetRow) (m : List Standing) → AreFrom t (with_standings t m (map line_of_row rows))
        → AgreeOnRows (with_standings t m (map line_of_row rows)) (standings t) rows
    agree_all [] m from = tt
    agree_all (row ∷ rows) m from =
        let next : List Standing = with_standing t m row.line in
        (from row.line (kept_all rows next row.line (there_one m row.line (is_some (find_standing m row.line)) refl)), agree_all rows next from)

    -- The rows of a budget file find the same standings among these as in the office.
    pub standings_agree : (rows : List BudgetRow) → AgreeOnRows (standings_named t (map line_of_row rows)) (standings t) rows
    standings_agree rows = agree_all rows [] (from_all rows [] (none_from t))
