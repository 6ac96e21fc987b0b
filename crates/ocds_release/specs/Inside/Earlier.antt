-- The steps that sort lots by their identifiers.
use Rattle.std.specs.Prelude.{◌≡◌, ℕ, List, [], ◌∷◌, true}
use Rattle.std.specs.Ordering.{is_lt}
use Rattle.office_values.specs.Ids.{id_cmp}

-- each of these identifiers comes before this one
abbrev pub AreEarlier : List ℕ → List (List ℕ) → Type 0
AreEarlier id [] = Unit {0}
AreEarlier id (d ∷ ds) = (is_lt (id_cmp d id) ≡ true) × AreEarlier id ds
