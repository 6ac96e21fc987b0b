-- The reserved amounts of borrowed lots are those of the lots.
use Rattle.office_memory.proofs.Names.{◌≡◌, List, [], ◌∷◌, map, Bor, refl, ap, ◌∙◌, LotRow}

each_reserved : (lots : List (Bor LotRow)) → map (λ lot. lot.now.reserved) lots ≡ map (λ (lot : LotRow). lot.reserved) (map (λ lot. lot.now) lots)
each_reserved [] = refl
each_reserved (lot ∷ lots) = ap (λ amounts. lot.now.reserved ∷ amounts) (each_reserved lots)

pub reserved_is : (lots : List (Bor LotRow)) (rows : List LotRow) → map (λ lot. lot.now) lots ≡ rows → map (λ lot. lot.now.reserved) lots ≡ map (λ (lot : LotRow). lot.reserved) rows
reserved_is lots rows e = each_reserved lots ∙ ap (map (λ (lot : LotRow). lot.reserved)) e
