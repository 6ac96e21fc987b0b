-- The publication of a notice.
use Rattle.tender_core.specs.Rules.Publish.{publish_rows, publish_lacks, publish_tests, publish_puts}
use Rattle.office_machine.specs.Orphans.{has_rows_of_notice}
use Rattle.office_machine.specs.Replies.{OfNotice, release_of}
use Rattle.office_machine.specs.Rule.{Rule, UnderNotice}
use Rattle.office_commands.specs.declared.notice.NewNotice.{NewNotice}
use Rattle.std.specs.Prelude.{ℕ, ◌||◌, List}

abbrev pub publish : List ℕ → NewNotice → Rule
publish notice content = record {
  tests = λ s t caller. publish_tests (publish_rows s notice) t content;
  lacks = λ s. publish_lacks (publish_rows s notice) || has_rows_of_notice notice s;
  puts = λ readings s t caller. publish_puts (publish_rows s notice) t notice content;
  publishes = UnderNotice notice;
  reply = λ readings s u t caller. OfNotice notice (release_of s.notices notice) t;
}
