-- The opening of the tenders of a notice.
use Rattle.std.specs.Prelude.{length, ℕ, Bool, not, ◌||◌, List}
use Rattle.std.specs.List.{list_any}
use Rattle.office_base.specs.Tables.{Tables}
use Rattle.tender_core.specs.Rules.Open.{open_rows, open_lacks, open_tests, open_puts}
use Rattle.office_machine.specs.Replies.{OpenedAll, release_of}
use Rattle.office_machine.specs.Rule.{Rule, has_seal_and_lot, sealed_of_notice, sealed_tenders, UnderNotice}

-- The seal or the lot of a tender that is still sealed is missing.
abbrev pub lacks_tender : List ℕ → Tables → Bool
lacks_tender notice s = list_any (λ e. not (has_seal_and_lot s e)) (sealed_of_notice notice s)

abbrev pub open_tenders : List ℕ → Rule
open_tenders notice = record {
  tests = λ s t caller. open_tests (open_rows s notice) t;
  lacks = λ s. open_lacks (open_rows s notice) || lacks_tender notice s;
  puts = λ readings s t caller. open_puts readings.read (open_rows s notice) t (sealed_tenders notice s);
  publishes = UnderNotice notice;
  reply = λ readings s u t caller. OpenedAll notice (length (sealed_of_notice notice s)) (release_of s.notices notice) t;
}
