-- The rule of an import: the rows of a budget file are taken in order.
use Rattle.std.specs.Prelude.{ℕ, ◌+◌, ◌-◌, Bool, true, false, cond, not, ◌&&◌, ◌||◌, List, [], ◌∷◌, ◌++◌, Option, Some, None, is_some, nat_lt, map, length}
use Rattle.office_values.specs.Money.{total_limit}
use Rattle.office_commands.specs.declared.budget.BudgetKind.{BudgetKind}
use Rattle.office_commands.specs.declared.budget.BudgetKind.TheVariants.{Add, Cut}
use Rattle.office_commands.specs.declared.budget.BudgetRow.{BudgetRow}
use Rattle.office_values.specs.declared.refusal.Thing.TheVariants as things
use Rattle.office_values.specs.declared.refusal.Refusal.{Refusal}
use Rattle.office_values.specs.declared.refusal.Refusal.TheVariants.{NoSuch, Exists, InsufficientFunds, LimitReached}
use Rattle.office_base.specs.Standings.{columns_at, put_standing, standings}
use Rattle.office_base.specs.declared.records.LineRow.{LineRow}
use Rattle.office_base.specs.declared.records.ClockRow.{ClockRow}
use Rattle.office_base.specs.declared.puts.Put.TheVariants as puts
use Rattle.office_base.specs.declared.puts.Put.{Put}
use Rattle.office_base.specs.declared.standing.Columns.{Columns}
use Rattle.office_base.specs.declared.standing.Standing.{Standing}
use Rattle.office_base.specs.Tables.{Tables, batch_at}
use Rattle.tender_core.specs.declared.import.ImportRows.{ImportRows}

-- the greatest number of rows of a file
abbrev pub row_limit : ℕ
row_limit = 500

abbrev pub is_cut : BudgetKind → Bool
is_cut Add = false
is_cut Cut = true

-- the appropriation of a line; 0 if the line doesn't exist
abbrev pub appropriation_of : Option Columns → ℕ
appropriation_of None = 0
appropriation_of (Some c) = c.appropriation

-- the free money of a line; 0 if the line doesn't exist
abbrev pub free_of : Option Columns → ℕ
free_of None = 0
free_of (Some c) = c.free

-- the columns of a line after a row, which adds its amount to both columns or cuts it from both
abbrev pub columns_after : Option Columns → BudgetRow → Columns
columns_after held row =
    cond (is_cut row.kind)
    (record { appropriation = appropriation_of held - row.amount; free = free_of held - row.amount })
    (record { appropriation = appropriation_of held + row.amount; free = free_of held + row.amount })

-- the lines after one row
abbrev pub after_row : List Standing → BudgetRow → List Standing
after_row m row = put_standing m (record { line = row.line; columns = Some (columns_after (columns_at m row.line) row) })

-- the lines after several rows, in order
abbrev pub after_rows : List Standing → List BudgetRow → List Standing
after_rows m [] = m
after_rows m (row ∷ rows) = after_rows (after_row m row) rows

-- whether a test is true of some row, given its line's columns after the rows before it
abbrev pub any_while_walking : (Option Columns → BudgetRow → Bool) → List Standing → List BudgetRow → Bool
any_while_walking test m [] = false
any_while_walking test m (row ∷ rows) = test (columns_at m row.line) row || any_while_walking test (after_row m row) rows

-- whether a row cuts money from a line that neither exists nor was made by an earlier row
abbrev pub cuts_nothing : Option Columns → BudgetRow → Bool
cuts_nothing held row = is_cut row.kind && not (is_some held)

-- whether a row cuts more than is free on its line
abbrev pub cuts_too_much : Option Columns → BudgetRow → Bool
cuts_too_much held row = is_cut row.kind && nat_lt (free_of held) row.amount

-- whether a row raises the appropriation of its line above the bound of sums
abbrev pub passes_limit : Option Columns → BudgetRow → Bool
passes_limit held row = not (is_cut row.kind) && nat_lt total_limit (appropriation_of held + row.amount)

-- the row of a budget line after the file: its columns after all rows, and the title in this row
abbrev pub imported_line : List Standing → BudgetRow → LineRow
imported_line after row = record {
  line = row.line;
  title = row.title;
  appropriation = appropriation_of (columns_at after row.line);
  free = free_of (columns_at after row.line);
}

abbrev pub imported_line_put : List Standing → BudgetRow → Put
imported_line_put after row = puts.Line (imported_line after row)

-- the changes after all rows: the line of each row, the budget file and the clock
abbrev pub puts_after : ClockRow → ℕ → List ℕ → List Standing → List BudgetRow → List Put
puts_after clock t batch after rows =
    map (imported_line_put after) rows ++ (puts.Batch (record { batch = batch; moment = t; rows = length rows }) ∷ puts.Clock (record clock { moment = t }) ∷ [])

-- the rows that an import reads
abbrev pub import_rows : Tables → List ℕ → List BudgetRow → ImportRows
import_rows s batch budget = record { batch = batch_at batch s; file = record { lines = standings s; rows = budget }; clock = s.clock }

-- whether a row cuts more than the appropriation of its line
abbrev pub cuts_below_zero : Option Columns → BudgetRow → Bool
cuts_below_zero held row = is_cut row.kind && nat_lt (appropriation_of held) row.amount

-- Whether a row cuts more than the appropriation of its line. In an office that its commands made at most that much is free, so such a cut is refused before.
abbrev pub import_lacks : ImportRows → Bool
import_lacks rows = any_while_walking cuts_below_zero rows.file.lines rows.file.rows

-- the conditions of its refusals, in order
abbrev pub import_tests : ImportRows → List (Bool × Refusal)
import_tests rows =
    (any_while_walking cuts_nothing rows.file.lines rows.file.rows, NoSuch things.Line)
    ∷ (is_some rows.batch, Exists)
    ∷ (any_while_walking cuts_too_much rows.file.lines rows.file.rows, InsufficientFunds)
    ∷ (nat_lt row_limit (length rows.file.rows) || any_while_walking passes_limit rows.file.lines rows.file.rows, LimitReached)
    ∷ []

-- its changes: the line of each row, the budget file and the clock
abbrev pub import_puts : ImportRows → ℕ → List ℕ → List Put
import_puts rows t batch = puts_after rows.clock t batch (after_rows rows.file.lines rows.file.rows) rows.file.rows
