-- An import keeps the accounts.
use Rattle.office_machine.proofs.Names.{◌≡◌, ℕ, ◌+◌, Bool, true, false, cond, ◌&&◌, List, ◌∷◌, ◌++◌, map, None, refl, sym, ap, subst, arith, length, nat_lt, not, Some, [], ◌≤◌, ◌-◌, AllByRecursion, same_id, id_cmp, Caller, Refusal, first_of, LineRow, Tables, IsSorted, after_puts, put_batch, Given, time_of, command_tests, effect, Readings, Move, Outside, Free, Reserved, Contracted, Paid, moves, Pot, inflow, outflow, same_pot, move_of_row, BudgetRow, sum_over, total_limit, appropriation, columns_at-after_row, eq_by_cmp, Columns, Standing, columns_at, standings, appropriation_of, free_of, columns_after, after_row, any_while_walking, passes_limit, row_limit, is_cut, after_rows, imported_line, sum_over-append_map, sum_over-ext, sum_over-zero}
use Rattle.office_commands.specs.declared.commands.Command.TheVariants as commands
use Rattle.office_machine.proofs.Accounts.Kept.{AccountsStand, PotsAre}
use Rattle.office_machine.proofs.Passed.{none_holds, neither, at_least}
use Rattle.office_machine.proofs.Accounts.Balance.{add_up}
use Rattle.office_machine.proofs.Commands.Import.Columns.{Changed, IsCovered, stands_after, columns_stand, adds, cuts, rows_change}
use Rattle.office_machine.proofs.Rows.RowsPut.{lines_put, after_lines}

-- the amount that a row's move brings into free
into_free : (cut same : Bool) (n : ℕ) → cond (same_pot (cond cut Outside Free) Free && same) n 0 ≡ cond same (cond cut 0 n) 0
into_free true true n = refl
into_free true false n = refl
into_free false same n = refl

into_outside : (cut same : Bool) (n : ℕ) → cond (same_pot (cond cut Outside Free) Outside && same) n 0 ≡ cond same (cond cut n 0) 0
into_outside true same n = refl
into_outside false true n = refl
into_outside false false n = refl

from_free : (cut same : Bool) (n : ℕ) → cond (same_pot (cond cut Free Outside) Free && same) n 0 ≡ cond same (cond cut n 0) 0
from_free true same n = refl
from_free false true n = refl
from_free false false n = refl

from_outside : (cut same : Bool) (n : ℕ) → cond (same_pot (cond cut Free Outside) Outside && same) n 0 ≡ cond same (cond cut 0 n) 0
from_outside true true n = refl
from_outside true false n = refl
from_outside false same n = refl

-- the place is neither outside nor free, so the rows of a budget file don't touch it
abbrev IsElsewhere : Pot → Type 0
IsElsewhere p = (same_pot Outside p ≡ false) × (same_pot Free p ≡ false)

into_other : (p : Pot) → IsElsewhere p → (cut same : Bool) (n : ℕ) → cond (same_pot (cond cut Outside Free) p && same) n 0 ≡ 0
into_other p h true same n = ap (λ b. cond (b && same) n 0) h.0
into_other p h false same n = ap (λ b. cond (b && same) n 0) h.1

from_other : (p : Pot) → IsElsewhere p → (cut same : Bool) (n : ℕ) → cond (same_pot (cond cut Free Outside) p && same) n 0 ≡ 0
from_other p h true same n = ap (λ b. cond (b && same) n 0) h.1
from_other p h false same n = ap (λ b. cond (b && same) n 0) h.0

module _ (ms : List Move) (rows : List BudgetRow) (q : List ℕ) where
  moved : (f : Move → ℕ) (g : BudgetRow → ℕ) → ((row : BudgetRow) → f (move_of_row row) ≡ g row)
      → sum_over f (map move_of_row rows ++ ms) ≡ sum_over g rows + sum_over f ms
  moved f g same = omega (arith, sum_over-append_map f move_of_row rows ms, sum_over-ext (λ row. f (move_of_row row)) g rows same)

  into : (p : Pot) (g : BudgetRow → ℕ) → ((row : BudgetRow) → cond (same_pot (move_of_row row).to p && same_id row.line q) row.amount 0 ≡ g row)
      → inflow (map move_of_row rows ++ ms) q p ≡ sum_over g rows + inflow ms q p
  into p g same = moved (λ (m : Move). cond (same_pot m.to p && same_id m.line q) m.amount 0) g same

  out_of : (p : Pot) (g : BudgetRow → ℕ) → ((row : BudgetRow) → cond (same_pot (move_of_row row).from p && same_id row.line q) row.amount 0 ≡ g row)
      → outflow (map move_of_row rows ++ ms) q p ≡ sum_over g rows + outflow ms q p
  out_of p g same = moved (λ (m : Move). cond (same_pot m.from p && same_id m.line q) m.amount 0) g same

  came_elsewhere : (p : Pot) → IsElsewhere p → inflow (map move_of_row rows ++ ms) q p ≡ inflow ms q p
  came_elsewhere p h =
      omega (arith, into p (λ _. 0) (λ row. into_other p h (is_cut row.kind) (same_id row.line q) row.amount), sum_over-zero rows)

  went_elsewhere : (p : Pot) → IsElsewhere p → outflow (map move_of_row rows ++ ms) q p ≡ outflow ms q p
  went_elsewhere p h =
      omega (arith, out_of p (λ _. 0) (λ row. from_other p h (is_cut row.kind) (same_id row.line q) row.amount), sum_over-zero rows)

-- if no row exceeds the limit, each appropriation remains within its bound
row_within : (m : List Standing) (row : BudgetRow) → ((p : List ℕ) → appropriation_of (columns_at m p) ≤ total_limit) → passes_limit (columns_at m row.line) row ≡ false → (q : List ℕ) → appropriation_of (columns_at (after_row m row) q) ≤ total_limit
row_within m row within h q =
    subst (λ c. appropriation_of c ≤ total_limit) (sym (columns_at-after_row m row q))
    (elim (eq_by_cmp id_cmp q row.line) as (λ b. appropriation_of (cond b (Some (columns_after (columns_at m row.line) row)) (columns_at m q)) ≤ total_limit) [
      | true ↦ by (is_cut row.kind) h
      | false ↦ within q
    ])
  where
    by : (b : Bool) → (not b && nat_lt total_limit (appropriation_of (columns_at m row.line) + row.amount)) ≡ false
        → (cond {A = Columns} b (record { appropriation = appropriation_of (columns_at m row.line) - row.amount; free = free_of (columns_at m row.line) - row.amount })
        (record { appropriation = appropriation_of (columns_at m row.line) + row.amount; free = free_of (columns_at m row.line) + row.amount })).appropriation ≤ total_limit
    by true g = let le = within row.line in omega (arith, le)
    by false g = at_least _ _ g

rows_within : (m : List Standing) (rows : List BudgetRow) → ((p : List ℕ) → appropriation_of (columns_at m p) ≤ total_limit) → any_while_walking passes_limit m rows ≡ false → (q : List ℕ) → appropriation_of (columns_at (after_rows m rows) q) ≤ total_limit
rows_within m [] within h q = within q
rows_within m (row ∷ rows) within h q =
    let passes = neither _ _ h in
    rows_within (after_row m row) rows (row_within m row within passes.0) passes.1 q

-- no line has more free money than its appropriation
pub covered : (xs : List Given) (s : Tables) → AccountsStand xs s → IsSorted s → (q : List ℕ) → IsCovered (columns_at (standings s) q)
covered xs s kept order q =
    let stand = columns_stand s q in
    omega (arith, add_up xs s kept order q, stand.appropriation_is, stand.free_is)

module _ (readings : Readings) (xs : List Given) (s : Tables) (moment : ℕ) (caller : Caller) (batch : List ℕ) (rows : List BudgetRow) (kept : AccountsStand xs s) (order : IsSorted s) where
  abbrev x : Given
  x = record { before = s; moment = moment; caller = caller; command = commands.Import batch rows }

  module _ (allowed : first_of (command_tests x) ≡ None) where
    -- the lines that the file's rows put
    abbrev file_lines : List LineRow
    file_lines = map (imported_line (after_rows (standings s) rows)) rows

    -- the office after the import, with its tables written out
    abbrev imported : Tables
    imported = record s {
      lines = lines_put s.lines file_lines;
      batches = put_batch s.batches (record { batch = batch; moment = time_of x; rows = length rows });
      clock = record s.clock { moment = time_of x };
    }

    imported_is : after_puts (effect readings x) s ≡ imported
    imported_is = after_lines (imported_line (after_rows (standings s) rows)) rows _ s

    passes : AllByRecursion (λ (test : Bool × Refusal). test.0 ≡ false) (command_tests x)
    passes = none_holds (command_tests x) allowed

    changed : (q : List ℕ) → Changed (columns_at (standings s) q) (columns_at (after_rows (standings s) rows) q) (sum_over (adds q) rows) (sum_over (cuts q) rows)
    changed q = rows_change (standings s) rows q (covered xs s kept order) passes.1.1.0

    pots : (q : List ℕ) → PotsAre (moves (x ∷ xs)) imported q
    pots q =
        let old = kept.pots q in
        let before = columns_stand s q in
        let after = stands_after s rows q in
        let change = changed q in
        let ms : List Move = moves xs in
        let cut : BudgetRow → Bool = λ row. is_cut row.kind in
        let same : BudgetRow → Bool = λ row. same_id row.line q in
        record {
          appropriation_is = omega (
            arith,
            old.appropriation_is,
            before.appropriation_is,
            after.appropriation_is,
            change.appropriation_is,
            into ms rows q Outside (cuts q) (λ row. into_outside (cut row) (same row) row.amount),
            out_of ms rows q Outside (adds q) (λ row. from_outside (cut row) (same row) row.amount),
          );
          free_is = omega (
            arith,
            old.free_is,
            before.free_is,
            after.free_is,
            change.free_is,
            into ms rows q Free (adds q) (λ row. into_free (cut row) (same row) row.amount),
            out_of ms rows q Free (cuts q) (λ row. from_free (cut row) (same row) row.amount),
          );
          reserved_is = omega (arith, old.reserved_is, came_elsewhere ms rows q Reserved (refl, refl), went_elsewhere ms rows q Reserved (refl, refl));
          gains_are = omega (arith, old.gains_are, came_elsewhere ms rows q Contracted (refl, refl));
          losses_are = omega (arith, old.losses_are, went_elsewhere ms rows q Contracted (refl, refl));
          paid_is = omega (arith, old.paid_is, came_elsewhere ms rows q Paid (refl, refl));
          none_spent = omega (arith, old.none_spent, went_elsewhere ms rows q Paid (refl, refl));
        }

    keeps : AccountsStand (x ∷ xs) imported
    keeps = record {
      pots = pots;
      lots = kept.lots;
      awards = λ a w h. let old = kept.awards a w h in record { drawn = old.drawn; of_lot = old.of_lot };
      one_active = kept.one_active;
      contracts = λ c y h. let old = kept.contracts c y h in record { of_award = old.of_award; running = old.running; within = old.within; came_in = omega (arith, old.came_in); went_out = omega (arith, old.went_out) };
      no_contract = λ c h. let old = kept.no_contract c h in record { came_in = omega (arith, old.came_in); went_out = omega (arith, old.went_out); raised = old.raised; lessened = old.lessened; paid_out = old.paid_out };
    }

    pub import_keeps : AccountsStand (x ∷ xs) (after_puts (effect readings x) s)
    import_keeps = subst (AccountsStand (x ∷ xs)) (sym imported_is) keeps

    -- if all appropriations were within the bound, they still are after the import
    pub import_fits : ((p : List ℕ) → appropriation p s ≤ total_limit) → (q : List ℕ) → appropriation q (after_puts (effect readings x) s) ≤ total_limit
    import_fits fit q =
        let within : (p : List ℕ) → appropriation_of (columns_at (standings s) p) ≤ total_limit = λ p. let stand = columns_stand s p in omega (arith, fit p, stand.appropriation_is) in
        let after : appropriation_of (columns_at (after_rows (standings s) rows) q) ≤ total_limit = rows_within (standings s) rows within (neither (nat_lt row_limit (length rows)) (any_while_walking passes_limit (standings s) rows) passes.1.1.1.0).1 q in
        let stand = stands_after s rows q in
        omega (arith, after, stand.appropriation_is, ap (appropriation q) imported_is)
