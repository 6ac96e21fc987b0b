-- The appropriation and the free amount of a line after the rows of a file.
use Rattle.office_machine.proofs.Names.{◌≡◌, ℕ, ◌+◌, ◌-◌, ◌≤◌, Bool, true, false, cond, ◌&&◌, List, [], ◌∷◌, map, Option, Some, None, option_map, nat_lt, ◌||◌, refl, sym, ap, ◌∙◌, subst, arith, AllByRecursion, nat_list_cmp_total, eq_by_cmp, id_cmp, same_id, BudgetRow, sum_over, Tables, line_key, find_line, line_at, columns_at, columns_of_row, standings, is_cut, appropriation_of, free_of, columns_after, after_row, after_rows, any_while_walking, cuts_too_much, imported_line, cuts_below_zero, appropriation_in, free_in, LineRow, Columns, Standing, columns_at-after_row, columns_at-standings, ids_exact, equal_keys, equal_ids, same_id_is}
use Rattle.office_machine.proofs.Passed.{neither, at_least}
use Rattle.office_machine.proofs.Parents.Whole.{not_less}
use Rattle.office_machine.proofs.Rows.RowsPut.{some_has, lines_put, found_after}

-- the row of a line, if it exists, has these amounts
pub record StandsAt (found : Option LineRow) (held : Option Columns) : Type 0 where
  pub appropriation_is : appropriation_in found ≡ appropriation_of held
  pub free_is : free_in found ≡ free_of held

stands_itself : (found : Option LineRow) → StandsAt found (option_map columns_of_row found)
stands_itself None = record { appropriation_is = refl; free_is = refl }
stands_itself (Some row) = record { appropriation_is = refl; free_is = refl }

-- rows for other lines leave the amounts of a line
unnamed : (after m : List Standing) (rows : List BudgetRow) (q : List ℕ) → some_has id_cmp line_key q (map (imported_line after) rows) ≡ false
    → columns_at (after_rows m rows) q ≡ columns_at m q
unnamed after m [] q none = refl
unnamed after m (row ∷ rows) q none =
    let apart = neither _ _ none in
    unnamed after (after_row m row) rows q apart.1
    ∙ (columns_at-after_row m row q ∙ ap (λ b. cond b (Some (columns_after (columns_at m row.line) row)) (columns_at m q)) apart.0)

each_right : (after : List Standing) (rows : List BudgetRow) (q : List ℕ)
    → AllByRecursion (λ (r : LineRow). eq_by_cmp id_cmp q r.line ≡ true → StandsAt (Some r) (columns_at after q)) (map (imported_line after) rows)
each_right after [] q = tt
each_right after (row ∷ rows) q = (
  λ e. subst (λ p. StandsAt (Some (imported_line after row)) (columns_at after p)) (sym (equal_keys ids_exact q row.line e)) (record { appropriation_is = refl; free_is = refl }),
  each_right after rows q,
)

-- after its lines are put, each line has the amounts that the file leads to
pub stands_after : (t : Tables) (rows : List BudgetRow) (q : List ℕ)
    → StandsAt (find_line (lines_put t.lines (map (imported_line (after_rows (standings t) rows)) rows)) q) (columns_at (after_rows (standings t) rows) q)
stands_after t rows q =
    let after : List Standing = after_rows (standings t) rows in
    found_after nat_list_cmp_total line_key (λ found. StandsAt found (columns_at after q)) q (map (imported_line after) rows) t.lines (each_right after rows q)
    (λ none. subst (StandsAt (line_at q t)) (sym (unnamed after (standings t) rows q none ∙ columns_at-standings t q)) (stands_itself (line_at q t)))

-- the amount that a row adds to a line
abbrev pub adds : List ℕ → BudgetRow → ℕ
adds q row = cond (same_id row.line q) (cond (is_cut row.kind) 0 row.amount) 0

abbrev pub cuts : List ℕ → BudgetRow → ℕ
cuts q row = cond (same_id row.line q) (cond (is_cut row.kind) row.amount 0) 0

-- both amounts have changed by the money added and cut
pub record Changed (held after : Option Columns) (more less : ℕ) : Type 0 where
  pub appropriation_is : appropriation_of after + less ≡ appropriation_of held + more
  pub free_is : free_of after + less ≡ free_of held + more

-- no more money is free than was appropriated
abbrev pub IsCovered : Option Columns → Type 0
IsCovered held = free_of held ≤ appropriation_of held

covered_after : (held after : Option Columns) (more less : ℕ) → IsCovered held → Changed held after more less → IsCovered after
covered_after held after more less within changed = omega (arith, within, changed.appropriation_is, changed.free_is)

same_columns : (held after : Option Columns) → after ≡ held → Changed held after 0 0
same_columns held after e = record { appropriation_is = omega (arith, ap appropriation_of e); free_is = omega (arith, ap free_of e) }

own_step : (a f n : ℕ) (cut : Bool) → f ≤ a → (cut && nat_lt f n) ≡ false
    → Changed (Some (record { appropriation = a; free = f }))
    (Some (cond cut (record { appropriation = a - n; free = f - n }) (record { appropriation = a + n; free = f + n })))
    (cond cut 0 n) (cond cut n 0)
own_step a f n true within h = let enough : n ≤ f = at_least f n h in record { appropriation_is = omega arith; free_is = omega arith }
own_step a f n false within h = record { appropriation_is = omega arith; free_is = omega arith }

-- the amounts of a row's own line
own_columns : (held : Option Columns) (row : BudgetRow) → IsCovered held → cuts_too_much held row ≡ false
    → Changed held (Some (columns_after held row)) (cond (is_cut row.kind) 0 row.amount) (cond (is_cut row.kind) row.amount 0)
own_columns held row within h =
    let own = own_step (appropriation_of held) (free_of held) row.amount (is_cut row.kind) within h in
    record { appropriation_is = own.appropriation_is; free_is = own.free_is }

row_step : (m : List Standing) (row : BudgetRow) (q : List ℕ) → IsCovered (columns_at m row.line) → cuts_too_much (columns_at m row.line) row ≡ false
    → (b : Bool) → same_id row.line q ≡ b
    → Changed (columns_at m q) (columns_at (after_row m row) q) (cond b (cond (is_cut row.kind) 0 row.amount) 0) (cond b (cond (is_cut row.kind) row.amount 0) 0)
row_step m row q within h true e =
    let more : ℕ = cond (is_cut row.kind) 0 row.amount in
    let less : ℕ = cond (is_cut row.kind) row.amount 0 in
    let after : columns_at (after_row m row) q ≡ Some (columns_after (columns_at m row.line) row) =
    columns_at-after_row m row q
    ∙ ap (λ b. cond b (Some (columns_after (columns_at m row.line) row)) (columns_at m q)) (sym (same_id_is row.line q) ∙ e) in
    subst (λ p. Changed (columns_at m p) (columns_at (after_row m row) q) more less) (equal_ids row.line q e)
    (subst (λ c. Changed (columns_at m row.line) c more less) (sym after) (own_columns (columns_at m row.line) row within h))
row_step m row q within h false e =
    same_columns (columns_at m q) (columns_at (after_row m row) q)
    (columns_at-after_row m row q
    ∙ ap (λ b. cond b (Some (columns_after (columns_at m row.line) row)) (columns_at m q)) (sym (same_id_is row.line q) ∙ e))

row_changes : (m : List Standing) (row : BudgetRow) (q : List ℕ) → IsCovered (columns_at m row.line) → cuts_too_much (columns_at m row.line) row ≡ false
    → Changed (columns_at m q) (columns_at (after_row m row) q) (adds q row) (cuts q row)
row_changes m row q within h = row_step m row q within h (same_id row.line q) refl

-- if no row cuts too much, the rows change a line by the money that they add and cut
pub rows_change : (m : List Standing) (rows : List BudgetRow) (q : List ℕ) → ((p : List ℕ) → IsCovered (columns_at m p)) → any_while_walking cuts_too_much m rows ≡ false
    → Changed (columns_at m q) (columns_at (after_rows m rows) q) (sum_over (adds q) rows) (sum_over (cuts q) rows)
rows_change m [] q covered h = same_columns (columns_at m q) (columns_at m q) refl
rows_change m (row ∷ rows) q covered h =
    let passes = neither _ _ h in
    let one : (p : List ℕ) → Changed (columns_at m p) (columns_at (after_row m row) p) (adds p row) (cuts p row) =
    λ p. row_changes m row p (covered row.line) passes.0 in
    let here = one q in
    let more = rows_change (after_row m row) rows q
    (λ p. covered_after (columns_at m p) (columns_at (after_row m row) p) (adds p row) (cuts p row) (covered p) (one p)) passes.1 in
    record {
      appropriation_is = omega (arith, here.appropriation_is, more.appropriation_is);
      free_is = omega (arith, here.free_is, more.free_is);
    }

-- if no row cuts more than the free money, none cuts more than the appropriation
below_by : (b : Bool) (a f n : ℕ) → f ≤ a → (b && nat_lt f n) ≡ false → (b && nat_lt a n) ≡ false
below_by true a f n within h = let enough : n ≤ f = at_least f n h in not_less a n (omega (arith, within, enough))
below_by false a f n within h = refl

pub none_below : (m : List Standing) (rows : List BudgetRow) → ((p : List ℕ) → IsCovered (columns_at m p)) → any_while_walking cuts_too_much m rows ≡ false → any_while_walking cuts_below_zero m rows ≡ false
none_below m [] covered h = refl
none_below m (row ∷ rows) covered h =
    let passes = neither _ _ h in
    let held : Option Columns = columns_at m row.line in
    let first : cuts_below_zero held row ≡ false = below_by (is_cut row.kind) (appropriation_of held) (free_of held) row.amount (covered row.line) passes.0 in
    let rest = none_below (after_row m row) rows
    (λ p. covered_after (columns_at m p) (columns_at (after_row m row) p) (adds p row) (cuts p row) (covered p) (row_changes m row p (covered row.line) passes.0)) passes.1 in
    λ i. first i || rest i

pub columns_stand : (t : Tables) (q : List ℕ) → StandsAt (line_at q t) (columns_at (standings t) q)
columns_stand t q = subst (StandsAt (line_at q t)) (sym (columns_at-standings t q)) (stands_itself (line_at q t))
