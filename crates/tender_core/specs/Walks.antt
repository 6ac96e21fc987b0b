-- The budget lines that a file names, with their columns before the file.
use Rattle.std.specs.Prelude.{ℕ, ◌≤◌, List, Option, Some, None, All, IsSome}
use Rattle.std.specs.List.{AllByRecursion}
use Rattle.office_commands.specs.declared.budget.BudgetRow.{BudgetRow}
use Rattle.office_base.specs.Standings.{find_standing}
use Rattle.office_base.specs.declared.standing.Columns.{Columns}
use Rattle.office_base.specs.declared.standing.Standing.{Standing}

-- the budget line of each row is among these
abbrev pub AreNamed : List Standing → List BudgetRow → Type 0
AreNamed m rows = All (λ (row : BudgetRow). IsSome (find_standing m row.line)) rows

-- the columns of a line, if it has any, are at most n
abbrev pub IsAtMost : ℕ → Option Columns → Type 0
IsAtMost n None = Unit {0}
IsAtMost n (Some c) = (c.appropriation ≤ n) × (c.free ≤ n)

-- the columns of all lines are at most n
abbrev pub AreAtMost : ℕ → List Standing → Type 0
AreAtMost n m = AllByRecursion (λ (s : Standing). IsAtMost n s.columns) m

-- the rows of a budget file, and the budget lines that they name
pub record FileOnLines : Type 0 where
  pub lines : List Standing
  pub rows : List BudgetRow
