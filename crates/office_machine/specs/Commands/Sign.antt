-- The signing of a contract.
use Rattle.award_core.specs.Rules.Sign.{sign_rows, sign_lacks, sign_tests, sign_puts}
use Rattle.office_base.specs.Parents.{envelope_of_award, lot_of_award}
use Rattle.office_base.specs.Rows.{holds_of}
use Rattle.office_base.specs.Tables.{award_at}
use Rattle.office_machine.specs.Orphans.{contract_is_taken, lacks_its_security, reserves_another}
use Rattle.office_machine.specs.Replies.{Signed, release_of_award}
use Rattle.office_machine.specs.Rule.{Rule, UnderAward}
use Rattle.office_commands.specs.declared.tender.NamedSecurity.{NamedSecurity}
use Rattle.std.specs.Prelude.{ℕ, ◌||◌, Option}

abbrev pub sign : ℕ → Option NamedSecurity → Rule
sign award named = record {
  tests = λ s t caller. sign_tests (sign_rows s award) t named;
  lacks = λ s. sign_lacks (sign_rows s award) || contract_is_taken award s || holds_of (lacks_its_security s) (envelope_of_award (award_at award s) s)
      || holds_of (reserves_another (lot_of_award (award_at award s) s)) (award_at award s);
  puts = λ readings s t caller. sign_puts (sign_rows s award) t named;
  publishes = UnderAward award;
  reply = λ readings s u t caller. Signed award (release_of_award (award_at award s) s.notices) t;
}
