-- An import with two lists of lines that agree on the lines that its rows name.
use Rattle.tender_core.proofs.Names.{◌≡◌, Bool, true, false, cond, ◌||◌, ℕ, List, [], ◌∷◌, ◌++◌, map, length, Option, Some, None, option_map, option_and_then, refl, sym, ap, ◌∙◌, eq_by_cmp, nat_list_cmp_total, Ordering, Less, Equal, Greater, id_cmp, BudgetRow, by_order, row_at, Tables, find_line, line_at, find_standing, columns_at, columns_of_row, standing_key, standing_of, standings, columns_after, after_row, after_rows, any_while_walking, imported_line_put, appropriation_of, free_of, cuts_nothing, cuts_too_much, passes_limit, cuts_below_zero, import_lacks, import_tests, import_puts, AgreeOnRows, ImportsAgree, import_on, ImportRows, LineRow, Put, Columns, Standing, row_at-row_put}
use Rattle.office_base.specs.declared.puts.Put.TheVariants as puts

columns_by : (b : Bool) (s : Standing) (found : Option Standing)
    → option_and_then (λ (x : Standing). x.columns) (cond b (Some s) found) ≡ cond b s.columns (option_and_then (λ (x : Standing). x.columns) found)
columns_by true s found = refl
columns_by false s found = refl

-- the columns of any line after a row
pub columns_at-after_row : (m : List Standing) (row : BudgetRow) (q : List ℕ)
    → columns_at (after_row m row) q ≡ cond (eq_by_cmp id_cmp q row.line) (Some (columns_after (columns_at m row.line) row)) (columns_at m q)
columns_at-after_row m row q =
    let s : Standing = record { line = row.line; columns = Some (columns_after (columns_at m row.line) row) } in
    ap (option_and_then (λ (x : Standing). x.columns)) (row_at-row_put nat_list_cmp_total standing_key m s q)
    ∙ columns_by (eq_by_cmp id_cmp q row.line) s (find_standing m q)

one_after : (m n : List Standing) (row : BudgetRow) (q : List ℕ) → columns_at m row.line ≡ columns_at n row.line → columns_at m q ≡ columns_at n q
    → columns_at (after_row m row) q ≡ columns_at (after_row n row) q
one_after m n row q here there =
    columns_at-after_row m row q
    ∙ ap (λ c. cond (eq_by_cmp id_cmp q row.line) (Some (columns_after c row)) (columns_at m q)) here
    ∙ ap (λ c. cond (eq_by_cmp id_cmp q row.line) (Some (columns_after (columns_at n row.line) row)) c) there
    ∙ sym (columns_at-after_row n row q)

agree_after : (m n : List Standing) (row : BudgetRow) (rows : List BudgetRow) → columns_at m row.line ≡ columns_at n row.line → AgreeOnRows m n rows → AgreeOnRows (after_row m row) (after_row n row) rows
agree_after m n row [] here h = tt
agree_after m n row (r ∷ rs) here h = (one_after m n row r.line here h.0, agree_after m n row rs here h.1)

pub agree_after_rows : (m n : List Standing) (rows others : List BudgetRow) → AgreeOnRows m n rows → AgreeOnRows m n others → AgreeOnRows (after_rows m rows) (after_rows n rows) others
agree_after_rows m n [] others h all = all
agree_after_rows m n (row ∷ rows) others h all =
    agree_after_rows (after_row m row) (after_row n row) rows others (agree_after m n row rows h.0 h.1) (agree_after m n row others h.0 all)

pub any_while_walking-agree : (test : Option Columns → BudgetRow → Bool) (m n : List Standing) (rows : List BudgetRow) → AgreeOnRows m n rows → any_while_walking test m rows ≡ any_while_walking test n rows
any_while_walking-agree test m n [] h = refl
any_while_walking-agree test m n (row ∷ rows) h =
    ap (λ c. test c row || any_while_walking test (after_row m row) rows) h.0
    ∙ ap (λ b. test (columns_at n row.line) row || b) (any_while_walking-agree test (after_row m row) (after_row n row) rows (agree_after m n row rows h.0 h.1))

pub lines_put-agree : (m n : List Standing) (rows : List BudgetRow) → AgreeOnRows m n rows → map (imported_line_put m) rows ≡ map (imported_line_put n) rows
lines_put-agree m n [] h = refl
lines_put-agree m n (row ∷ rows) h =
    let put : Option Columns → Put = λ c. puts.Line (record { line = row.line; title = row.title; appropriation = appropriation_of c; free = free_of c }) in
    ap (λ c. put c ∷ map (imported_line_put m) rows) h.0
    ∙ ap (λ ps. imported_line_put n row ∷ ps) (lines_put-agree m n rows h.1)

-- the conditions of its refusals are the same with both lists
pub tests-agree : (m n : List Standing) (rows : ImportRows) → AgreeOnRows m n rows.file.rows → import_tests (import_on m rows) ≡ import_tests (import_on n rows)
tests-agree m n rows h =
    rw (any_while_walking-agree cuts_nothing m n rows.file.rows h, any_while_walking-agree cuts_too_much m n rows.file.rows h, any_while_walking-agree passes_limit m n rows.file.rows h) refl

pub puts-agree : (m n : List Standing) (rows : ImportRows) (t : ℕ) (batch : List ℕ) → AgreeOnRows m n rows.file.rows
    → import_puts (import_on m rows) t batch ≡ import_puts (import_on n rows) t batch
puts-agree m n rows t batch h =
    let file = rows.file.rows in
    ap (λ ps. ps ++ (puts.Batch (record { batch = batch; moment = t; rows = length file }) ∷ puts.Clock (record rows.clock { moment = t }) ∷ []))
    (lines_put-agree (after_rows m file) (after_rows n file) file (agree_after_rows m n file file h h))

pub lacks-agree : (m n : List Standing) (rows : ImportRows) → AgreeOnRows m n rows.file.rows → import_lacks (import_on m rows) ≡ import_lacks (import_on n rows)
lacks-agree m n rows h = any_while_walking-agree cuts_below_zero m n rows.file.rows h

standing_step : (q : List ℕ) (x : LineRow) (found : Option LineRow) (rest : Option Standing) → rest ≡ option_map standing_of found
    → (c : Ordering) → by_order c None (Some (standing_of x)) rest ≡ option_map standing_of (by_order c None (Some x) found)
standing_step q x found rest ih Less = refl
standing_step q x found rest ih Equal = refl
standing_step q x found rest ih Greater = ih

pub find_standing-map : (rows : List LineRow) (q : List ℕ) → find_standing (map standing_of rows) q ≡ option_map standing_of (find_line rows q)
unfolding row_at
find_standing-map [] q = refl
find_standing-map (x ∷ rows) q = standing_step q x (find_line rows q) (find_standing (map standing_of rows) q) (find_standing-map rows q) (id_cmp q x.line)

columns_step : (found : Option LineRow) → option_and_then (λ (x : Standing). x.columns) (option_map standing_of found) ≡ option_map columns_of_row found
columns_step None = refl
columns_step (Some row) = refl

-- the columns of a line before a file are those of its row in the office
pub columns_at-standings : (t : Tables) (q : List ℕ) → columns_at (standings t) q ≡ option_map columns_of_row (line_at q t)
columns_at-standings t q = ap (option_and_then (λ (x : Standing). x.columns)) (find_standing-map t.lines q) ∙ columns_step (line_at q t)

pub imports_agree : ImportsAgree
imports_agree = record { tests = tests-agree; puts = puts-agree; lacks = lacks-agree; columns = columns_at-standings }
