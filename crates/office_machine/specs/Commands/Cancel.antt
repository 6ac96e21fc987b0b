-- The cancellation of a notice.
use Rattle.tender_core.specs.Rules.Cancel.{cancel_rows, cancel_lacks, cancel_tests, cancel_puts}
use Rattle.office_machine.specs.Replies.{OfNotice, release_of}
use Rattle.office_machine.specs.Rule.{Rule, UnderNotice}
use Rattle.std.specs.Prelude.{ℕ, List}

abbrev pub cancel : List ℕ → List ℕ → Rule
cancel notice rationale = record {
  tests = λ s t caller. cancel_tests (cancel_rows s notice);
  lacks = λ s. cancel_lacks (cancel_rows s notice);
  puts = λ readings s t caller. cancel_puts (cancel_rows s notice) t;
  publishes = UnderNotice notice;
  reply = λ readings s u t caller. OfNotice notice (release_of s.notices notice) t;
}
