-- The award of a lot.
use Rattle.award_core.specs.Rules.Award.{award_rows, award_lacks, award_tests, award_puts, winner}
use Rattle.office_base.specs.Tables.{notice_at, envelopes_of_lot}
use Rattle.std.specs.Prelude.{ℕ, ◌||◌, List, option_map}
use Rattle.office_machine.specs.Orphans.{award_is_taken}
use Rattle.office_machine.specs.Replies.{Awarded, release_of, winning}
use Rattle.office_machine.specs.Rule.{Rule, UnderNotice}

abbrev pub award : List ℕ → List ℕ → Rule
award notice lot = record {
  tests = λ s t caller. award_tests (award_rows s notice lot) t;
  lacks = λ s. award_lacks (award_rows s notice lot) || award_is_taken notice lot s;
  puts = λ readings s t caller. award_puts (award_rows s notice lot) t;
  publishes = UnderNotice notice;
  reply = λ readings s u t caller. Awarded lot (option_map (winning s.clock) (winner (notice_at notice s) (envelopes_of_lot notice lot s))) (release_of s.notices notice) t;
}
