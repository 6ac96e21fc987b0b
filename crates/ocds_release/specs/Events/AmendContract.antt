-- The release when a contract is raised or cut.
use Rattle.std.specs.Prelude.{ℕ, List, [], ◌∷◌, codes}
use Rattle.serde_json.specs.Data.{Data}
use Rattle.office_values.specs.declared.settings.Publisher.{Publisher}
use Rattle.office_commands.specs.declared.contract.ChangeKind.{ChangeKind}
use Rattle.office_commands.specs.declared.contract.ChangeKind.TheVariants.{Raise, Cut}
use Rattle.ocds_release.specs.Objects.{Entry, text, decimal_id, array_of, object_of, money}
use Rattle.ocds_release.specs.Texts.{raised_text, cut_text}
use Rattle.ocds_release.specs.Amendments.{amendment}
use Rattle.ocds_release.specs.Releases.{tags}
use Rattle.ocds_release.specs.declared.event.ContractAmended.{ContractAmended}

-- the description of the change
abbrev pub change_text : ChangeKind → ℕ → List ℕ
change_text Raise amount = raised_text amount
change_text Cut amount = cut_text amount

-- the contract at its new value, and the amendment, whose id is the entry's (OCDS 1.1, Contract, amendments)
abbrev pub amended_contract : List ℕ → ℕ → ContractAmended → Data
amended_contract currency t e = object_of (
    (codes "id", decimal_id e.contract)
    ∷ (codes "awardID", decimal_id e.contract)
    ∷ (codes "value", money e.value currency)
    ∷ (codes "amendments", array_of (amendment (text e.entry) t e.rationale (text (change_text e.kind e.amount)) ∷ []))
    ∷ [])

-- tag `contractAmendment`, and the contract
abbrev pub amend_contract_body : Publisher → ℕ → ContractAmended → List Entry
amend_contract_body publisher t e =
    tags (codes "contractAmendment" ∷ [])
    ∷ (codes "contracts", array_of (amended_contract publisher.currency t e ∷ []))
    ∷ []
