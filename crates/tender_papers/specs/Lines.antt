-- Lines of text in the format of this office: a tab separates two fields, and a line feed ends the line.
use Rattle.std.specs.Prelude.{ℕ, List, [], ◌∷◌, ◌++◌, codes}

-- a field that isn't the last of its line, with its tab
abbrev pub tabbed : List ℕ → List ℕ
tabbed field = field ++ codes "\t"

-- the last field of a line, with the line feed
abbrev pub ended : List ℕ → List ℕ
ended field = field ++ codes "\n"

-- the line of these fields
abbrev pub line : List (List ℕ) → List ℕ
line [] = codes "\n"
line (field ∷ []) = ended field
line (field ∷ next ∷ more) = tabbed field ++ line (next ∷ more)
