-- The imported budget files, and the titles of budget lines, are those that accepted imports gave.
use Rattle.std.specs.Prelude.{◌≡◌, ℕ, cond, List, [], ◌∷◌, length, Option, Some, None, option_map}
use Rattle.office_values.specs.Ids.{same_id}
use Rattle.office_commands.specs.declared.budget.BudgetRow.{BudgetRow}
use Rattle.office_commands.specs.declared.commands.Command.{Command}
use Rattle.office_commands.specs.declared.commands.Command.TheVariants.{Import}
use Rattle.office_base.specs.declared.records.BatchRow.{BatchRow}
use Rattle.office_base.specs.declared.records.LineRow.{LineRow}
use Rattle.office_base.specs.Tables.{Tables, batch_at, line_at}
use Rattle.office_machine.specs.Machine.{Means, Given, Reaches, time_of}

-- A budget file after a command: its import has the number of the command's rows and the command's moment, and no command changes it.
abbrev pub batch_by : Command → ℕ → List ℕ → Option BatchRow → Option BatchRow
batch_by (Import name rows) t batch old = cond (same_id name batch) (Some (record { batch = name; moment = t; rows = length rows })) old
batch_by _ t batch old = old

-- The budget file that these accepted commands, the last one first, imported under a name.
abbrev pub batch_after : List Given → List ℕ → Option BatchRow
batch_after [] batch = None
batch_after (x ∷ xs) batch = batch_by x.command (time_of x) batch (batch_after xs batch)

-- The title of a budget line after these rows, taken in order: each row that names the line gives it its title.
abbrev pub title_in : List BudgetRow → List ℕ → Option (List ℕ) → Option (List ℕ)
title_in [] line title = title
title_in (row ∷ rows) line title = title_in rows line (cond (same_id row.line line) (Some row.title) title)

-- The title of a budget line after a command: only the rows of an import give it one.
abbrev pub title_by : Command → List ℕ → Option (List ℕ) → Option (List ℕ)
title_by (Import name rows) line title = title_in rows line title
title_by _ line title = title

-- The title that these accepted commands gave a budget line; none if no import names the line.
abbrev pub title_after : List Given → List ℕ → Option (List ℕ)
title_after [] line = None
title_after (x ∷ xs) line = title_by x.command line (title_after xs line)

-- The title in the row of a budget line.
abbrev pub line_title : LineRow → List ℕ
line_title row = row.title

-- The office has the budget files that were imported, and no others. It has the lines that their rows name, each with its last title, and no others.
pub record HasImports (xs : List Given) (t : Tables) : Type 0 where
  pub batches : (batch : List ℕ) → batch_at batch t ≡ batch_after xs batch
  pub titles : (line : List ℕ) → option_map line_title (line_at line t) ≡ title_after xs line

-- So it is wherever accepted commands lead. The money of the rows is in the accounts.
abbrev pub ImportsAreKept : Type 0
ImportsAreKept = (means : Means) (xs : List Given) (t : Tables) → Reaches means xs t → HasImports xs t
