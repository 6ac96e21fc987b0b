-- The submission of a tender.
use Rattle.office_base.specs.Rows.{holds_of}
use Rattle.office_base.specs.Transitions.{is_in_time}
use Rattle.office_base.specs.Tables.{notice_at}
use Rattle.tender_core.specs.Rules.Present.{present_rows, present_lacks, present_tests, present_puts, received}
use Rattle.office_machine.specs.Orphans.{receipt_is_taken}
use Rattle.office_machine.specs.Replies.{received_reply}
use Rattle.office_machine.specs.Rule.{Rule, Silent}
use Rattle.office_commands.specs.declared.tender.NamedSecurity.{NamedSecurity}
use Rattle.std.specs.Prelude.{ℕ, ◌||◌, List, Option}

abbrev pub present : List ℕ → List ℕ → Option NamedSecurity → List ℕ → Rule
present notice lot security bytes = record {
  tests = λ s t caller. present_tests (present_rows s notice lot) t caller security;
  lacks = λ s. present_lacks (present_rows s notice lot) || receipt_is_taken s;
  puts = λ readings s t caller. present_puts readings.digest (present_rows s notice lot) t caller notice lot security bytes;
  publishes = Silent;
  reply = λ readings s u t caller. received_reply (received readings.digest s.clock t caller notice lot security bytes (holds_of (is_in_time t) (notice_at notice s)));
}
