-- The budget lines that a command names. Each is looked up once, in the order in which the command names them.
use Rattle.std.specs.Prelude.{ℕ, Bool, not, ◌&&◌, cond, List, [], ◌∷◌, Option, is_some, IsSome, option_map, map, filter}
use Rattle.office_commands.specs.declared.budget.BudgetRow.{BudgetRow}
use Rattle.office_commands.specs.declared.lot.NewLot.{NewLot}
use Rattle.office_values.specs.Ids.{id_cmp}
use Rattle.office_base.specs.Tables.{Tables, find_line, line_at, line_key, notice_at, lots_of_line, lots_of_notice}
use Rattle.office_base.specs.Standings.{columns_at, columns_of_row, find_standing, put_standing}
use Rattle.office_base.specs.declared.records.LineRow.{LineRow}
use Rattle.office_base.specs.declared.records.LotRow.{LotRow}
use Rattle.office_base.specs.declared.standing.Standing.{Standing}
use Rattle.tender_core.specs.Rules.Import.{import_rows}
use Rattle.tender_core.specs.Rules.Cancel.{is_open_lot, cancel_rows}
use Rattle.tender_core.specs.declared.cancel.CancelRows.{CancelRows}
use Rattle.tender_core.specs.declared.import.ImportRows.{ImportRows}
use Rattle.tender_core.specs.declared.publish.PublishRows.{PublishRows}
use Rattle.office_machine.specs.References.{has_rows}
use Rattle.office_plans.specs.LookedUp.{with_row}

-- The budget line that a new lot, a stored lot or a row of a budget file names.
abbrev pub line_of_new : NewLot → List ℕ
line_of_new lot = lot.line

abbrev pub line_of_lot : LotRow → List ℕ
line_of_lot lot = lot.line

abbrev pub line_of_row : BudgetRow → List ℕ
line_of_row row = row.line

-- The lines after this name is looked up, unless a line of this name is already among them.
abbrev pub with_line : Tables → List LineRow → List ℕ → List LineRow
with_line s lines name = cond (is_some (find_line lines name)) lines (with_row id_cmp line_key lines (line_at name s))

-- The lines after all these names are looked up.
abbrev pub with_lines : Tables → List LineRow → List (List ℕ) → List LineRow
with_lines s lines [] = lines
with_lines s lines (name ∷ names) = with_lines s (with_line s lines name) names

-- The lines of the office that have one of these names.
abbrev pub lines_named : Tables → List (List ℕ) → List LineRow
lines_named s names = with_lines s [] names

-- The `Standing` of this name, by the row that was found of it: its appropriation and its free money, if there is a row.
abbrev pub standing_at : List ℕ → Option LineRow → Standing
standing_at name found = record { line = name; columns = option_map columns_of_row found }

-- The table after the line of this name is looked up and its `Standing` is put.
abbrev pub with_new_standing : Tables → List Standing → List ℕ → List Standing
with_new_standing s m name = put_standing m (standing_at name (line_at name s))

-- The table after the line of this name is looked up, unless its `Standing` is already in it.
abbrev pub with_standing : Tables → List Standing → List ℕ → List Standing
with_standing s m name = cond (is_some (find_standing m name)) m (with_new_standing s m name)

-- The standings after the lines of all these names are looked up.
abbrev pub with_standings : Tables → List Standing → List (List ℕ) → List Standing
with_standings s m [] = m
with_standings s m (name ∷ names) = with_standings s (with_standing s m name) names

-- The standings of the lines with these names.
abbrev pub standings_named : Tables → List (List ℕ) → List Standing
standings_named s names = with_standings s [] names

-- These lines don't have the line of a row, and a lot of it exists.
abbrev pub is_of_lost_line : Tables → List Standing → BudgetRow → Bool
is_of_lost_line s m row = not (is_some (columns_at m row.line)) && has_rows (lots_of_line row.line s)

-- Every line that had a standing still has one.
abbrev pub StillThere : List Standing → List Standing → Type 0
StillThere old new = (q : List ℕ) → IsSome (find_standing old q) → IsSome (find_standing new q)

-- The rows by which an import is decided; of the lines only those that the budget file names.
abbrev pub import_named : Tables → List ℕ → List BudgetRow → ImportRows
import_named s batch rows = record (import_rows s batch rows) { file = record { lines = standings_named s (map line_of_row rows); rows = rows } }

-- The rows by which a publication is decided; of the lines only those of its lots.
abbrev pub publish_named : Tables → List ℕ → List NewLot → PublishRows
publish_named s notice lots = record { notice = notice_at notice s; lines = lines_named s (map line_of_new lots); clock = s.clock }

-- The rows by which a cancellation is decided; of the lines only those of the open lots.
abbrev pub cancel_named : Tables → List ℕ → CancelRows
cancel_named s notice = record (cancel_rows s notice) { lines = lines_named s (map line_of_lot (filter is_open_lot (lots_of_notice notice s))) }
