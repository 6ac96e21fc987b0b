-- The amendment of a notice.
use Rattle.std.specs.Prelude.{ℕ, List}
use Rattle.tender_core.specs.Rules.AmendNotice.{amend_notice_rows, amend_notice_lacks, amend_notice_tests, amend_notice_puts}
use Rattle.office_machine.specs.Replies.{OfNotice, release_of}
use Rattle.office_machine.specs.Rule.{Rule, UnderNotice}

abbrev pub amend_notice : List ℕ → ℕ → List ℕ → Rule
amend_notice notice deadline rationale = record {
  tests = λ s t caller. amend_notice_tests (amend_notice_rows s notice) t deadline;
  lacks = λ s. amend_notice_lacks (amend_notice_rows s notice);
  puts = λ readings s t caller. amend_notice_puts (amend_notice_rows s notice) t deadline;
  publishes = UnderNotice notice;
  reply = λ readings s u t caller. OfNotice notice (release_of s.notices notice) t;
}
