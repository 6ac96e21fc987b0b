-- Texts of a bounded length.
use Rattle.std.specs.Prelude.{◌≡◌, ℕ, ◌+◌, ◌≤◌, List, ◌++◌, length}

-- A text was appended to another, if both fit into 288 bytes.
abbrev pub FitsBehind : List ℕ → List ℕ → List ℕ → Type 0
FitsBehind old text new = length old + length text ≤ 288 → new ≡ old ++ text
