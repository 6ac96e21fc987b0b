-- The end of a contract.
use Rattle.award_core.specs.Rules.End.{end_rows, end_lacks, end_tests, end_puts}
use Rattle.office_base.specs.Tables.{contract_at}
use Rattle.office_machine.specs.Replies.{OfContract, release_of_contract, left_of}
use Rattle.office_machine.specs.Rule.{Rule, UnderContract}
use Rattle.office_commands.specs.declared.contract.How.{How}
use Rattle.std.specs.Prelude.{ℕ}

abbrev pub end_contract : ℕ → How → Rule
end_contract contract how = record {
  tests = λ s t caller. end_tests (end_rows s contract);
  lacks = λ s. end_lacks (end_rows s contract);
  puts = λ readings s t caller. end_puts (end_rows s contract) t how;
  publishes = UnderContract contract;
  reply = λ readings s u t caller. OfContract contract (left_of (contract_at contract u) u.entries) (release_of_contract (contract_at contract s) s.notices) t;
}
