-- Worked examples of budgets: budget files, and the public view of a line.
use Rattle.std.specs.Prelude.{◌++◌, ◌∷◌, ◌≡◌, ◌≤◌, List, [], codes, replicate, ℕ}
use Prim.Native.Nat.{suc-le-suc, zero-le}
use Rattle.office_commands.specs.declared.budget.BudgetKind.TheVariants.{Add, Cut}
use Rattle.office_commands.specs.declared.budget.BudgetRow.{BudgetRow}
use Rattle.office_commands.specs.declared.command.Caller.TheVariants.{Public}
use Rattle.office_commands.specs.declared.commands.Command.TheVariants.{Import}
use Rattle.office_commands.specs.declared.queries.Query.TheVariants as queries
use Rattle.office_values.specs.declared.refusal.Refusal.TheVariants.{Exists, InsufficientFunds, LimitReached, NoSuch}
use Rattle.office_values.specs.declared.refusal.Thing.TheVariants as things
use Rattle.office_machine.specs.Replies.{Imported, LedgerSeen, LineSeen, Refused}
use Rattle.office_machine.specs.Requests.{Request}
use Rattle.office_machine.specs.Worked.Office.{by_clerk, february, january, looks, money, pots, pots_are, roads, row, setup, replies}

-- A budget file with this name and these rows.
abbrev pub file : ℕ → List ℕ → List BudgetRow → Request
file moment batch rows = by_clerk moment (Import batch rows)

-- A second budget file.
abbrev pub second : List BudgetRow → Request
second rows = file february (codes "B2") rows

-- A row that adds this amount.
abbrev pub adds : (amount : ℕ) → 1 ≤ amount → BudgetRow
adds amount some = row roads Add amount some

-- A row that cuts this amount.
abbrev pub cuts : (amount : ℕ) → 1 ≤ amount → BudgetRow
cuts amount some = row roads Cut amount some

-- A budget file with so many rows of 1 each.
abbrev pub file_of : ℕ → Request
file_of rows = file january (codes "B1") (replicate rows (adds 1 (suc-le-suc zero-le)))

-- The public asks for the roads.
abbrev pub sees_line : Request
sees_line = looks Public february (queries.Line roads)

pub record BudgetsWorked : Type 0 where
  -- A budget file makes a line and adds money to it.
  pub money_comes : replies [] money ≡ Imported (codes "B1") 1 january ∷ []
  -- The public sees the line with its balances.
  pub line_is_seen : replies money (sees_line ∷ [])
      ≡ LineSeen roads (codes "Roads") (record { appropriation = 1000; free = 1000; reserved = 0; contracted = 0; paid = 0 }) ∷ []
  -- A query for a line that doesn't exist is refused.
  pub no_line_is_seen : replies [] (sees_line ∷ []) ≡ Refused (NoSuch things.Line) ∷ []
  -- A budget file without rows is accepted, but no file is accepted twice.
  pub empty_file_once : replies money (second [] ∷ second [] ∷ []) ≡ Imported (codes "B2") 0 february ∷ Refused Exists ∷ []
  -- A budget file can't cut more than is free, counted with its earlier rows, not even by one unit.
  pub one_cut_too_much : replies money (second (adds 5 (suc-le-suc zero-le) ∷ cuts 1006 (suc-le-suc zero-le) ∷ []) ∷ []) ≡ Refused InsufficientFunds ∷ []
  -- If one row is refused, no row of the file counts.
  pub all_is_kept : pots (money ++ second (adds 5 (suc-le-suc zero-le) ∷ cuts 1006 (suc-le-suc zero-le) ∷ []) ∷ []) ≡ pots_are 1000 1000 0 0 0
  -- A budget file can cut all free money.
  pub all_is_cut : pots (money ++ second (adds 5 (suc-le-suc zero-le) ∷ cuts 1005 (suc-le-suc zero-le) ∷ []) ∷ []) ≡ pots_are 0 0 0 0 0
  -- Money that a notice reserved can't be cut.
  pub reserved_is_kept : replies setup (second (cuts 401 (suc-le-suc zero-le) ∷ []) ∷ second (cuts 400 (suc-le-suc zero-le) ∷ []) ∷ [])
      ≡ Refused InsufficientFunds ∷ Imported (codes "B2") 1 february ∷ []
  -- A row can't cut from a line that doesn't exist and that no earlier row makes.
  pub unknown_line_is_cut : replies [] (second (cuts 1 (suc-le-suc zero-le) ∷ adds 1 (suc-le-suc zero-le) ∷ []) ∷ []) ≡ Refused (NoSuch things.Line) ∷ []
  -- A row can cut from a line that an earlier row makes.
  pub new_line_is_cut : replies [] (second (adds 1 (suc-le-suc zero-le) ∷ cuts 1 (suc-le-suc zero-le) ∷ []) ∷ []) ≡ Imported (codes "B2") 2 february ∷ []
  -- An appropriation can reach its bound, and not exceed it.
  pub bound_is_reached : replies [] (file january (codes "B1") (adds 1000000000000000 (suc-le-suc zero-le) ∷ []) ∷ second (adds 1 (suc-le-suc zero-le) ∷ []) ∷ [])
      ≡ Imported (codes "B1") 1 january ∷ Refused LimitReached ∷ []
  -- A budget file has at most 500 rows.
  pub rows_are_bounded : replies [] (file_of 501 ∷ file_of 500 ∷ [])
      ≡ Refused LimitReached ∷ Imported (codes "B1") 500 january ∷ []
  -- The ledger lists all budget lines in the order of their identifiers.
  pub ledger_is_seen : replies setup (file february (codes "B2") (row (codes "0900") Add 50 (suc-le-suc zero-le) ∷ []) ∷ looks Public february queries.Ledger ∷ [])
      ≡ Imported (codes "B2") 1 february
      ∷ LedgerSeen
      (record { line = codes "0900"; pots = record { appropriation = 50; free = 50; reserved = 0; contracted = 0; paid = 0 } }
      ∷ record { line = roads; pots = record { appropriation = 1000; free = 400; reserved = 600; contracted = 0; paid = 0 } }
      ∷ [])
      ∷ []
