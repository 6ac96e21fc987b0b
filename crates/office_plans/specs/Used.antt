-- The refusal of a budget file or of a notice whose identifier is used already. It is found without a table of budget lines, so it takes no memory.
use Rattle.std.specs.Prelude.{ℕ, Bool, false, cond, not, ◌&&◌, List, [], ◌∷◌, is_some}
use Rattle.std.specs.List.{list_any}
use Rattle.office_values.specs.Ids.{same_id}
use Rattle.office_values.specs.declared.refusal.Refusal.{Refusal}
use Rattle.office_values.specs.declared.refusal.Refusal.TheVariants.{Exists, NoSuch}
use Rattle.office_values.specs.declared.refusal.Thing.TheVariants.{Line}
use Rattle.office_commands.specs.declared.budget.BudgetRow.{BudgetRow}
use Rattle.office_commands.specs.declared.lot.NewLot.{NewLot}
use Rattle.office_base.specs.Tables.{Tables, line_at}
use Rattle.tender_core.specs.Rules.Import.{is_cut}
use Rattle.tender_core.specs.Rules.Publish.{is_on_no_line}

-- The first of these rows that names this line cuts money from it.
abbrev pub first_cuts : List BudgetRow → List ℕ → Bool
first_cuts [] line = false
first_cuts (row ∷ rows) line = cond (same_id row.line line) (is_cut row.kind) (first_cuts rows line)

-- The budget line of this row doesn't exist, and the first of the file's rows that names it cuts money from it.
abbrev pub cuts_lost_line : Tables → List BudgetRow → BudgetRow → Bool
cuts_lost_line s file row = first_cuts file row.line && not (is_some (line_at row.line s))

-- The refusal of a command whose identifier is used. The argument: does a budget line that it needs not exist?
abbrev pub refusal_if_used : Bool → Refusal
refusal_if_used lost = cond lost (NoSuch Line) Exists

-- The refusal of a budget file whose identifier is used.
abbrev pub used_file : List BudgetRow → Tables → Refusal
used_file rows s = refusal_if_used (list_any (cuts_lost_line s rows) rows)

-- The refusal of a notice whose identifier is used.
abbrev pub used_notice : List NewLot → Tables → Refusal
used_notice lots s = refusal_if_used (list_any (is_on_no_line s.lines) lots)
