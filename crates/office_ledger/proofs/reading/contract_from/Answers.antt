use Rattle.office_ledger.proofs.Names.{contract_cells, columns_of_contract, ContractFits}
use Rattle.office_ledger.proofs.Parted.{not_read}
use Rattle.office_ledger.proofs.reading.contract_from.Goals as goal

pub returns-in_err-contract_at-clause-cause : goal.returns-in_err-contract_at-clause-cause
returns-in_err-contract_at-clause-cause c =
    not_read contract_cells ContractFits (columns_of_contract c.args.row.now c.args.at) c.has_no_contract.result c.has_no_contract.ensures c.if-has_no_contract.false _ c.from_residual.result c.from_residual.ensures.1 c.in_err-contract_at.ensures.cause
