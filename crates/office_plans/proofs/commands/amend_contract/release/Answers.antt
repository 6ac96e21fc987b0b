use Rattle.office_plans.proofs.Names.{nat_cmp-IsAntisymmetric, ◌≡◌, ℕ, List, Option, Some, max, option_map, ◌∙◌, ap, sym, AmendContract, AmendContractRows, Event, notice_of_contract, contract_at, entries_of_contract, ContractRow, EntryRow, amend_contract_event, contract_value_after, given_by}
use Rattle.ocds_release.specs.declared.event.Event.TheVariants as events
use Rattle.office_plans.proofs.Maybe.{if_ok}
use Rattle.office_plans.proofs.commands.amend_contract.release.Goals as goal

pub returns-clause-release : goal.returns-clause-release
returns-clause-release c =
    let a = c.args in
    let row : ContractRow = a.contract.now in
    let told : ℕ → List ℕ → Event = λ value rationale. events.AmendContract (record {
      notice = row.notice;
      contract = row.contract;
      entry = a.entry;
      kind = a.kind;
      amount = a.amount;
      value = value;
      rationale = rationale;
    }) in
    if_ok c.make_release.result c.make_release.ensures.release
    (λ made holds s number are here.
    let found : contract_at number s ≡ Some row = sym (ap (λ (rows : AmendContractRows). rows.contract) are) ∙ here in
    let same : number ≡ row.contract = nat_cmp-IsAntisymmetric number row.contract (c.rows_are_kept.ensures.found_key s.contracts number row found) in
    let entries : c.as_slice.result.now ≡ entries_of_contract row.contract s =
    c.as_slice.ensures ∙ ap (λ (rows : AmendContractRows). rows.entries) are ∙ ap (λ n. entries_of_contract n s) same in
    let value : c.in-Some.value ≡ contract_value_after (entries_of_contract row.contract s) row a.kind a.amount =
    c.in-Some.ensures.found ∙ ap (λ (es : List EntryRow). contract_value_after es row a.kind a.amount) entries in
    let event : Some (told c.in-Some.value c.of-rationale.result) ≡ Some (told (contract_value_after (entries_of_contract row.contract s) row a.kind a.amount) a.rationale.now) =
    λ i. Some (told (value i) (c.of-rationale.ensures i)) in
    holds (given_by a.asking.now s (AmendContract number a.entry a.kind a.amount a.rationale.now))
    (ap (option_map (λ (r : ContractRow). amend_contract_event s r a.entry a.kind a.amount a.rationale.now)) found ∙ sym event)
    (ap (option_map (λ (r : ContractRow). r.notice)) found)
    (ap (λ (rows : AmendContractRows). rows.notice) are ∙ ap (λ (r : Option ContractRow). notice_of_contract r s) found)
    (c.time-t.ensures ∙ ap (λ (rows : AmendContractRows). max a.asking.now.moment rows.clock.moment) are))
