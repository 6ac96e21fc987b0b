-- The test that no contract lost more than it gained agrees with that property.
use Rattle.office_base.proofs.Names.{◌≡◌, ◌≤◌, true, List, [], ◌∷◌, AllByRecursion, list_all, refl, and_parts, and_from, leb-true, le-leb, is_within, ContractSums}

pub all_within : (contracts : List ContractSums) → list_all is_within contracts ≡ true → AllByRecursion (λ (sums : ContractSums). sums.lost ≤ sums.gained) contracts
all_within [] e = tt
all_within (x ∷ xs) e = let (first, rest) = and_parts _ _ e in (leb-true _ _ first, all_within xs rest)

pub within_all : (contracts : List ContractSums) → AllByRecursion (λ (sums : ContractSums). sums.lost ≤ sums.gained) contracts → list_all is_within contracts ≡ true
within_all [] h = refl
within_all (x ∷ xs) h = and_from _ _ (le-leb _ _ h.0) (within_all xs h.1)
