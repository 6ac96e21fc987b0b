-- Counted reads.
use Rattle.office_wire.proofs.Names.{◌≡◌, ℕ, ◌<◌, List, [], ◌∷◌, length, arith, refl}

-- if no byte of a shown list is taken, none was shown
pub none_shown : (shown : List ℕ) (n : ℕ) → (0 < length shown → 0 < n) → n ≡ 0 → length shown ≡ 0
none_shown [] n some none = refl
none_shown (x ∷ xs) n some none = absurd (omega (arith, some (omega arith), none))
