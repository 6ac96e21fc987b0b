-- The replacement of a tender.
use Rattle.office_base.specs.Tables.{envelope_at}
use Rattle.tender_core.specs.Rules.Modify.{modify_rows, modify_lacks, modify_tests, modify_puts}
use Rattle.office_machine.specs.Orphans.{is_torn, receipt_is_taken}
use Rattle.office_machine.specs.Replies.{modify_reply}
use Rattle.office_machine.specs.Rule.{Rule, Silent}
use Rattle.std.specs.Prelude.{ℕ, ◌||◌, List}

abbrev pub modify : ℕ → List ℕ → Rule
modify receipt bytes = record {
  tests = λ s t caller. modify_tests (modify_rows s receipt) t caller;
  lacks = λ s. modify_lacks (modify_rows s receipt) || receipt_is_taken s || is_torn s (envelope_at receipt s);
  puts = λ readings s t caller. modify_puts readings.digest (modify_rows s receipt) t bytes;
  publishes = Silent;
  reply = λ readings s u t caller. modify_reply readings s.clock t bytes (envelope_at receipt s);
}
