-- The amendment of a contract.
use Rattle.award_core.specs.Rules.AmendContract.{amend_contract_rows, amend_contract_lacks, amend_contract_tests, amend_contract_puts}
use Rattle.office_base.specs.Tables.{contract_at}
use Rattle.office_machine.specs.Replies.{OfContract, release_of_contract, left_of}
use Rattle.office_machine.specs.Rule.{Rule, UnderContract}
use Rattle.office_commands.specs.declared.contract.ChangeKind.{ChangeKind}
use Rattle.std.specs.Prelude.{ℕ, List}

abbrev pub amend_contract : ℕ → List ℕ → ChangeKind → ℕ → List ℕ → Rule
amend_contract contract entry kind amount rationale = record {
  tests = λ s t caller. amend_contract_tests (amend_contract_rows s contract) entry kind amount;
  lacks = λ s. amend_contract_lacks (amend_contract_rows s contract);
  puts = λ readings s t caller. amend_contract_puts (amend_contract_rows s contract) t entry kind amount rationale;
  publishes = UnderContract contract;
  reply = λ readings s u t caller. OfContract contract (left_of (contract_at contract u) u.entries) (release_of_contract (contract_at contract s) s.notices) t;
}
