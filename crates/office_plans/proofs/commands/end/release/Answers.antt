use Rattle.office_plans.proofs.Names.{◌≡◌, Option, Some, max, option_map, ◌∙◌, ap, sym, End, EndRows, notice_of_contract, contract_at, ContractRow, end_event, given_by}
use Rattle.office_plans.proofs.Maybe.{if_ok}
use Rattle.office_plans.proofs.commands.end.release.Goals as goal

pub returns-clause-release : goal.returns-clause-release
returns-clause-release c =
    let a = c.args in
    if_ok c.make_release.result c.make_release.ensures.release
    (λ made holds s number how are here.
    let found : contract_at number s ≡ Some a.contract.now = sym (ap (λ (rows : EndRows). rows.contract) are) ∙ here in
    holds (given_by a.asking.now s (End number how))
    (ap (option_map end_event) found)
    (ap (option_map (λ (r : ContractRow). r.notice)) found)
    (ap (λ (rows : EndRows). rows.notice) are ∙ ap (λ (r : Option ContractRow). notice_of_contract r s) found)
    (c.time-t.ensures ∙ ap (λ (rows : EndRows). max a.asking.now.moment rows.clock.moment) are))
