-- Rows of a budget file, taken in order.
use Rattle.tender_core.proofs.Names.{◌≡◌, ℕ, ◌+◌, ◌-◌, ◌*◌, ◌<◌, ◌≤◌, ◌^◌, Bool, true, false, cond, ◌||◌, List, [], ◌∷◌, Option, Some, None, IsSome, is_some, refl, sym, ap, ◌∙◌, arith, nat_list_cmp_total, eq_by_cmp, id_cmp, All-weaker, BudgetRow, find_standing, columns_at, standing_key, after_row, after_rows, any_while_walking, columns_after, is_cut, Columns, Standing, RowsAreKept, all-put, all-found, AreNamed, IsAtMost, AreAtMost}

-- a line that is found is still found after a put of another line or its own
there_by : (b : Bool) (s : Standing) (found : Option Standing) → is_some found ≡ true → is_some (cond b (Some s) found) ≡ true
there_by true s found h = refl
there_by false s found h = h

-- after a row, the lines of the remaining rows are still among the lines
pub named_after : RowsAreKept id_cmp standing_key → (m : List Standing) (row : BudgetRow) (rows : List BudgetRow) → AreNamed m rows → AreNamed (after_row m row) rows
named_after laws m row rows named =
    let s : Standing = record { line = row.line; columns = Some (columns_after (columns_at m row.line) row) } in
    All-weaker (λ (r : BudgetRow). IsSome (find_standing m r.line)) (λ (r : BudgetRow). IsSome (find_standing (after_row m row) r.line))
    (λ r there. ap is_some (laws.found_put m s r.line) ∙ there_by (eq_by_cmp id_cmp r.line s.line) s (find_standing m r.line) there)
    rows named

weaker : (n m : ℕ) (o : Option Columns) → n ≤ m → IsAtMost n o → IsAtMost m o
weaker n m None le h = tt
weaker n m (Some c) le h = (omega (arith, h.0), omega (arith, h.1))

pub all_weaker : (n m : ℕ) (xs : List Standing) → n ≤ m → AreAtMost n xs → AreAtMost m xs
all_weaker n m [] le h = tt
all_weaker n m (x ∷ xs) le h = (weaker n m x.columns le h.0, all_weaker n m xs le h.1)

abbrev at_option : ℕ → Option Standing → Type 0
at_option n None = Unit {0}
at_option n (Some s) = IsAtMost n s.columns

columns_bound : (n : ℕ) (found : Option Standing) → at_option n found → IsAtMost n (Rattle.std.specs.Prelude.option_and_then (λ (s : Standing). s.columns) found)
columns_bound n None h = tt
columns_bound n (Some s) h = h

-- the columns of one line are within the bound of all lines
pub columns_at-bound : (n : ℕ) (m : List Standing) (line : List ℕ) → AreAtMost n m → IsAtMost n (columns_at m line)
columns_at-bound n m line h = columns_bound n (find_standing m line) (all-found nat_list_cmp_total standing_key (at_option n) m line tt h)

columns_for : (b : Bool) (a f n amount : ℕ) → amount ≤ 10 ^ 15 → a ≤ n → f ≤ n
    → let c : Columns = cond b (record { appropriation = a - amount; free = f - amount }) (record { appropriation = a + amount; free = f + amount }) in
    (c.appropriation ≤ n + 10 ^ 15) × (c.free ≤ n + 10 ^ 15)
columns_for true a f n amount small ha hf = (omega arith, omega arith)
columns_for false a f n amount small ha hf = (omega arith, omega arith)

after_bound : (n : ℕ) (held : Option Columns) (row : BudgetRow) → row.amount ≤ 10 ^ 15 → IsAtMost n held → IsAtMost (n + 10 ^ 15) (Some (columns_after held row))
after_bound n None row amount h = columns_for (is_cut row.kind) 0 0 n row.amount amount (omega arith) (omega arith)
after_bound n (Some c) row amount h = columns_for (is_cut row.kind) c.appropriation c.free n row.amount amount h.0 h.1

-- a row raises the columns by at most the greatest sum
pub after_row-bound : (n : ℕ) (m : List Standing) (row : BudgetRow) → row.amount ≤ 10 ^ 15 → AreAtMost n m → AreAtMost (n + 10 ^ 15) (after_row m row)
after_row-bound n m row amount h =
    all-put nat_list_cmp_total standing_key (λ (s : Standing). IsAtMost (n + 10 ^ 15) s.columns) m _
    (after_bound n (columns_at m row.line) row amount (columns_at-bound n m row.line h))
    (all_weaker n (n + 10 ^ 15) m (omega arith) h)

-- however long a file is, its columns stay below 2^126
pub small_columns : (i len : ℕ) (m : List Standing) (line : List ℕ) → i < len → len < 2 ^ 64 → AreAtMost ((i + 1) * 10 ^ 15) m → IsAtMost (2 ^ 126) (columns_at m line)
small_columns i len m line lt few h = weaker ((i + 1) * 10 ^ 15) (2 ^ 126) (columns_at m line) (omega arith) (columns_at-bound ((i + 1) * 10 ^ 15) m line h)

-- taking the first row and then the remaining ones is taking all rows
pub next_row : (rows rest : List BudgetRow) (row : BudgetRow) (m m' start : List Standing) → rows ≡ row ∷ rest → m' ≡ after_row m row
    → after_rows m rows ≡ start → after_rows m' rest ≡ start
next_row rows rest row m m' start split taken h = ap (λ x. after_rows x rest) taken ∙ ap (after_rows m) (sym split) ∙ h

or_assoc : (a b c : Bool) → (a || b) || c ≡ a || (b || c)
or_assoc true b c = refl
or_assoc false b c = refl

pub next_found : (test : Option Columns → BudgetRow → Bool) (rows rest : List BudgetRow) (row : BudgetRow) (m m' : List Standing) (held : Option Columns) (before here all found : Bool)
    → rows ≡ row ∷ rest → m' ≡ after_row m row → held ≡ columns_at m row.line → here ≡ test held row → all ≡ before || here
    → before || any_while_walking test m rows ≡ found → all || any_while_walking test m' rest ≡ found
next_found test rows rest row m m' held before here all found split taken at found_here joined h =
    ap (λ x. all || any_while_walking test x rest) taken
    ∙ ap (λ x. x || any_while_walking test (after_row m row) rest) (joined ∙ ap (λ x. before || x) (found_here ∙ ap (λ x. test x row) at))
    ∙ or_assoc before (test (columns_at m row.line) row) (any_while_walking test (after_row m row) rest)
    ∙ ap (λ x. before || any_while_walking test m x) (sym split)
    ∙ h
