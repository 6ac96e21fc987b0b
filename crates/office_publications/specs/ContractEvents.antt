-- The events of a contract, as releases describe them.
use Rattle.std.specs.Prelude.{ℕ, List}
use Rattle.office_commands.specs.declared.contract.ChangeKind.{ChangeKind}
use Rattle.office_base.specs.Tables.{Tables, entries_of_contract}
use Rattle.office_base.specs.declared.records.ContractRow.{ContractRow}
use Rattle.ocds_release.specs.declared.event.Event.{Event}
use Rattle.ocds_release.specs.declared.event.Event.TheVariants as events
use Rattle.office_publications.specs.AwardEvents.{party_of}
use Rattle.office_publications.specs.Worth.{contract_value_after}

-- A contract is raised or cut.
abbrev pub amend_contract_event : Tables → ContractRow → List ℕ → ChangeKind → ℕ → List ℕ → Event
amend_contract_event s c entry kind amount rationale = events.AmendContract (record {
  notice = c.notice;
  contract = c.contract;
  entry = entry;
  kind = kind;
  amount = amount;
  value = contract_value_after (entries_of_contract c.contract s) c kind amount;
  rationale = rationale;
})

-- An amount is paid to the contract's tenderer.
abbrev pub pay_event : Tables → ContractRow → List ℕ → ℕ → Event
pay_event s c entry amount = events.Pay (record { notice = c.notice; contract = c.contract; entry = entry; amount = amount; payee = party_of s c.tenderer })

-- A contract ends.
abbrev pub end_event : ContractRow → Event
end_event c = events.End (record { notice = c.notice; contract = c.contract })
