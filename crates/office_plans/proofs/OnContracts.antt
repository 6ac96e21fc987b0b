-- Replies to commands on contracts are equal if their parts are equal.
use Rattle.office_plans.proofs.Names.{◌≡◌, ℕ, OfContract}

pub told_alike : (contract left left' release release' t t' : ℕ) → left ≡ left' → release ≡ release' → t ≡ t'
    → OfContract contract left release t ≡ OfContract contract left' release' t'
told_alike contract left left' release release' t t' e f g = λ i. OfContract contract (e i) (f i) (g i)
