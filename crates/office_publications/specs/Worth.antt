-- The value of a contract.
use Rattle.std.specs.Prelude.{ℕ, ◌+◌, ◌-◌, Bool, true, false, cond, List}
use Rattle.office_commands.specs.declared.contract.ChangeKind.{ChangeKind}
use Rattle.award_core.specs.Rules.AmendContract.{is_raising}
use Rattle.office_base.specs.EntryKinds.{is_raise}
use Rattle.office_base.specs.Joined.{entry_sum}
use Rattle.office_base.specs.declared.records.ContractRow.{ContractRow}
use Rattle.office_base.specs.declared.records.EntryKind.{EntryKind}
use Rattle.office_base.specs.declared.records.EntryKind.TheVariants.{Raise, Cut, Payment}
use Rattle.office_base.specs.declared.records.EntryRow.{EntryRow}

-- The entry is a cut of the contract.
abbrev pub is_contract_cut : EntryKind → Bool
is_contract_cut Raise = false
is_contract_cut Cut = true
is_contract_cut Payment = false

-- The value after a raise or a cut: the signed amount and the raises, less the cuts.
abbrev pub contract_value_after : List EntryRow → ContractRow → ChangeKind → ℕ → ℕ
contract_value_after entries c kind amount =
    (c.signed + entry_sum is_raise entries c.contract + cond (is_raising kind) amount 0) - (entry_sum is_contract_cut entries c.contract + cond (is_raising kind) 0 amount)
