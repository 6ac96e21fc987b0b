-- The failure of an award whose winner doesn't sign.
use Rattle.award_core.specs.Rules.Fail.{fail_rows, fail_lacks, fail_tests, fail_puts}
use Rattle.office_base.specs.Tables.{award_at}
use Rattle.office_machine.specs.Replies.{Failed, release_of_award}
use Rattle.office_machine.specs.Rule.{Rule, UnderAward}
use Rattle.std.specs.Prelude.{ℕ}

abbrev pub fail : ℕ → Rule
fail award = record {
  tests = λ s t caller. fail_tests (fail_rows s award) t;
  lacks = λ s. fail_lacks (fail_rows s award);
  puts = λ readings s t caller. fail_puts (fail_rows s award) t;
  publishes = UnderAward award;
  reply = λ readings s u t caller. Failed award (release_of_award (award_at award s) s.notices) t;
}
