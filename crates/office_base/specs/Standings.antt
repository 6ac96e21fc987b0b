-- The columns of budget lines, while the rows of a budget file are taken in order.
use Rattle.std.specs.Prelude.{ℕ, List, map, Option, Some, option_and_then}
use Rattle.office_values.specs.Ids.{id_cmp}
use Rattle.office_base.specs.Rows.{row_at, row_put}
use Rattle.office_base.specs.Tables.{Tables}
use Rattle.office_base.specs.declared.records.LineRow.{LineRow}
use Rattle.office_base.specs.declared.standing.Columns.{Columns}
use Rattle.office_base.specs.declared.standing.Standing.{Standing}

-- the key of a line's state: the line
abbrev pub standing_key : Standing → List ℕ
standing_key s = s.line

-- the state of a line among these, if the file names the line
abbrev pub find_standing : List Standing → List ℕ → Option Standing
find_standing m line = row_at id_cmp standing_key m line

-- the states with this one added, or in place of that of its line
abbrev pub put_standing : List Standing → Standing → List Standing
put_standing m s = row_put id_cmp standing_key m s

-- the columns of a line; nothing if the line doesn't exist
abbrev pub columns_at : List Standing → List ℕ → Option Columns
columns_at m line = option_and_then (λ (s : Standing). s.columns) (find_standing m line)

-- the columns in the row of a line
abbrev pub columns_of_row : LineRow → Columns
columns_of_row row = record { appropriation = row.appropriation; free = row.free }

-- the state of an existing line, before the file
abbrev pub standing_of : LineRow → Standing
standing_of row = record { line = row.line; columns = Some (columns_of_row row) }

-- the states of all lines of the office, before the file
abbrev pub standings : Tables → List Standing
standings t = map standing_of t.lines
