-- The examination of a tender.
use Rattle.award_core.specs.Rules.Examine.{examine_rows, examine_lacks, examine_tests, examine_puts}
use Rattle.std.specs.Prelude.{ℕ, Bool, Option}
use Rattle.office_machine.specs.Replies.{Examined}
use Rattle.office_machine.specs.Rule.{Rule, Silent}

abbrev pub examine : ℕ → Bool → Option ℕ → Rule
examine receipt responsive quality = record {
  tests = λ s t caller. examine_tests (examine_rows s receipt) responsive quality;
  lacks = λ s. examine_lacks (examine_rows s receipt);
  puts = λ readings s t caller. examine_puts (examine_rows s receipt) t responsive quality;
  publishes = Silent;
  reply = λ readings s u t caller. Examined receipt responsive t;
}
