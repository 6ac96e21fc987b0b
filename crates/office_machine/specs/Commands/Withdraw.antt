-- The withdrawal of a tender.
use Rattle.std.specs.Prelude.{ℕ, ◌||◌}
use Rattle.office_base.specs.Transitions.{is_late}
use Rattle.tender_core.specs.Rules.Withdraw.{withdraw_rows, withdraw_lacks, withdraw_tests, withdraw_puts}
use Rattle.office_base.specs.Rows.{holds_of}
use Rattle.office_base.specs.Tables.{envelope_at}
use Rattle.office_machine.specs.Orphans.{lacks_seal}
use Rattle.office_machine.specs.Replies.{Withdrew, state_after}
use Rattle.office_machine.specs.Rule.{Rule, Silent}

abbrev pub withdraw : ℕ → Rule
withdraw receipt = record {
  tests = λ s t caller. withdraw_tests (withdraw_rows s receipt) t caller;
  lacks = λ s. withdraw_lacks (withdraw_rows s receipt) || holds_of (lacks_seal s) (envelope_at receipt s);
  puts = λ readings s t caller. withdraw_puts (withdraw_rows s receipt) t;
  publishes = Silent;
  reply = λ readings s u t caller.
      let rows = withdraw_rows s receipt in Withdrew receipt (state_after (is_late rows.late t rows.notice) rows.envelope) t;
}
