-- The release when something is paid under a contract.
use Rattle.std.specs.Prelude.{ℕ, List, [], ◌∷◌, codes}
use Rattle.serde_json.specs.Data.{Data}
use Rattle.office_values.specs.Moments.{moment_text}
use Rattle.office_values.specs.declared.settings.Publisher.{Publisher}
use Rattle.ocds_release.specs.Objects.{Entry, text, decimal_id, array_of, object_of, money, tenderer_reference}
use Rattle.ocds_release.specs.Releases.{tags, buyer_of}
use Rattle.ocds_release.specs.declared.event.Paid.{Paid}

-- the payment, from the buyer to the tenderer (OCDS 1.1, Transaction)
abbrev pub transaction : Publisher → ℕ → Paid → Data
transaction publisher t e = object_of (
    (codes "id", text e.entry)
    ∷ (codes "date", text (moment_text t))
    ∷ (codes "value", money e.amount publisher.currency)
    ∷ (codes "payer", buyer_of publisher)
    ∷ (codes "payee", tenderer_reference e.payee.id e.payee.name)
    ∷ [])

-- the contract with the transaction (OCDS 1.1, Contract, implementation)
abbrev pub paid_contract : Publisher → ℕ → Paid → Data
paid_contract publisher t e = object_of (
    (codes "id", decimal_id e.contract)
    ∷ (codes "awardID", decimal_id e.contract)
    ∷ (codes "implementation", object_of ((codes "transactions", array_of (transaction publisher t e ∷ [])) ∷ []))
    ∷ [])

-- tag `implementation`, and the contract with its transaction
abbrev pub pay_body : Publisher → ℕ → Paid → List Entry
pay_body publisher t e =
    tags (codes "implementation" ∷ [])
    ∷ (codes "contracts", array_of (paid_contract publisher t e ∷ []))
    ∷ []
