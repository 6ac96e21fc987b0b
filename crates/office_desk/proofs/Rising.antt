-- A fault that is counted.
use Rattle.office_desk.proofs.Names.{◌≡◌, ℕ, arith, HasRisen, one_fault_more}

-- The count after one more fault is higher, or it was already the highest.
pub has_risen : (old new : ℕ) → new ≡ one_fault_more old → HasRisen old new
has_risen old new counted = grind (arith, counted)
