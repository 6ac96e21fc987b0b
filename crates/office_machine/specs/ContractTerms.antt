-- A contract has the lot, the price and the tenderer of its award.
use Rattle.std.specs.Prelude.{◌≡◌, ℕ, List, Some}
use Rattle.office_base.specs.Tables.{Tables, award_at, contract_at, envelope_at}
use Rattle.office_base.specs.declared.records.AwardRow.{AwardRow}
use Rattle.office_base.specs.declared.records.ContractRow.{ContractRow}
use Rattle.office_base.specs.declared.records.EnvelopeRow.{EnvelopeRow}
use Rattle.office_machine.specs.Machine.{Means, Given, Reaches}

-- The award of this number exists, and so does its tender. The contract is on the award's lot, at its price, with the tenderer of its tender.
pub record IsOfAward (t : Tables) (c : ContractRow) : Type 0 where
  pub award : AwardRow
  pub tender : EnvelopeRow
  pub awarded : award_at c.contract t ≡ Some award
  pub presented : envelope_at award.receipt t ≡ Some tender
  pub notice_is : c.notice ≡ award.notice
  pub lot_is : c.lot ≡ award.lot
  pub price_is : c.signed ≡ award.price
  pub tenderer_is : c.tenderer ≡ tender.tenderer

-- So it is of each contract, wherever accepted commands lead.
abbrev pub ContractsAreOfAwards : Type 0
ContractsAreOfAwards = (means : Means) (xs : List Given) (t : Tables) → Reaches means xs t → (number : ℕ) (c : ContractRow) → contract_at number t ≡ Some c → IsOfAward t c
