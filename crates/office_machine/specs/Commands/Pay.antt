-- A payment under a contract.
use Rattle.award_core.specs.Rules.Pay.{pay_rows, pay_lacks, pay_tests, pay_puts}
use Rattle.office_base.specs.Tables.{contract_at}
use Rattle.std.specs.Prelude.{ℕ, List}
use Rattle.office_machine.specs.Replies.{OfContract, release_of_contract, left_of}
use Rattle.office_machine.specs.Rule.{Rule, UnderContract}

abbrev pub pay : ℕ → List ℕ → ℕ → Rule
pay contract entry amount = record {
  tests = λ s t caller. pay_tests (pay_rows s contract) entry amount;
  lacks = λ s. pay_lacks (pay_rows s contract);
  puts = λ readings s t caller. pay_puts (pay_rows s contract) t entry amount;
  publishes = UnderContract contract;
  reply = λ readings s u t caller. OfContract contract (left_of (contract_at contract u) u.entries) (release_of_contract (contract_at contract s) s.notices) t;
}
