use Rattle.office_ledger.proofs.Names.{ap, ◌∙◌, ContractListing}
use Rattle.office_ledger.proofs.contract_list.ContractList.finish.Goals as goal

pub returns-in-Ok-clause-sums : goal.returns-in-Ok-clause-sums
returns-in-Ok-clause-sums c = ap (λ (s : ContractListing). s.listed.done) (c.self.view_is ∙ c.in-Ok.ensures.ended)
