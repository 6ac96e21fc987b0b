-- The release when a contract ends.
use Rattle.std.specs.Prelude.{ℕ, List, [], ◌∷◌, codes}
use Rattle.serde_json.specs.Data.{Data}
use Rattle.ocds_release.specs.Objects.{Entry, text, decimal_id, array_of, object_of}
use Rattle.ocds_release.specs.Releases.{tags}
use Rattle.ocds_release.specs.declared.event.ContractEnded.{ContractEnded}

-- the contract with the status `terminated` (OCDS 1.1, codelist contractStatus)
abbrev pub ended_contract_data : ℕ → Data
ended_contract_data contract = object_of (
    (codes "id", decimal_id contract)
    ∷ (codes "awardID", decimal_id contract)
    ∷ (codes "status", text (codes "terminated"))
    ∷ [])

-- tag `contractTermination`, and the contract
abbrev pub end_body : ContractEnded → List Entry
end_body e =
    tags (codes "contractTermination" ∷ [])
    ∷ (codes "contracts", array_of (ended_contract_data e.contract ∷ []))
    ∷ []
