-- The import of a budget file.
use Rattle.std.specs.Prelude.{length, ℕ, ◌||◌, List}
use Rattle.std.specs.List.{list_any}
use Rattle.tender_core.specs.Rules.Import.{import_rows, import_lacks, import_tests, import_puts}
use Rattle.office_machine.specs.Orphans.{names_lost_line}
use Rattle.office_machine.specs.Replies.{Imported}
use Rattle.office_machine.specs.Rule.{Rule, Silent}
use Rattle.office_commands.specs.declared.budget.BudgetRow.{BudgetRow}

abbrev pub import_budget : List ℕ → List BudgetRow → Rule
import_budget batch rows = record {
  tests = λ s t caller. import_tests (import_rows s batch rows);
  lacks = λ s. import_lacks (import_rows s batch rows) || list_any (names_lost_line s) rows;
  puts = λ readings s t caller. import_puts (import_rows s batch rows) t batch;
  publishes = Silent;
  reply = λ readings s u t caller. Imported batch (length rows) t;
}
