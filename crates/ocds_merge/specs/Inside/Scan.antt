-- The end of a value in a JSON text, found one byte at a time. No public clause uses this file.
use Rattle.std.specs.Prelude.{◌≢◌, ℕ, ◌+◌, ◌-◌, List, [], ◌∷◌, ◌||◌, ◌&&◌, ◌==◌, ◌≤◌, cond, ⊤}

-- the scan is outside of strings, inside a string, or after a backslash in one
pub data Mode : Type 0 where
  between : Mode
  in_string : Mode
  escaped : Mode

-- The text from the comma or the closing bracket after a value on. The scan begins inside `n` arrays and objects of the value.
abbrev pub scan : ℕ → Mode → List ℕ → List ℕ
scan n between [] = []
scan n between (c ∷ r) =
    cond (c == 34) (scan n in_string r)
    (cond ((c == 123) || (c == 91)) (scan (n + 1) between r)
    (cond ((c == 125) || (c == 93)) (cond (n == 0) (c ∷ r) (scan (n - 1) between r))
    (cond ((c == 44) && (n == 0)) (c ∷ r) (scan n between r))))
scan n in_string [] = []
scan n in_string (c ∷ r) = cond (c == 92) (scan n escaped r) (cond (c == 34) (scan n between r) (scan n in_string r))
scan n escaped [] = []
scan n escaped (c ∷ r) = scan n in_string r

-- no byte is a quote or a backslash
abbrev pub IsPlain : List ℕ → Type 0
IsPlain [] = ⊤
IsPlain (c ∷ r) = (c ≢ 34) × (c ≢ 92) × IsPlain r

-- a byte of a string that is written without an escape
abbrev pub StandsForItself : ℕ → Type 0
StandsForItself c = (32 ≤ c) × (c ≢ 34) × (c ≢ 92)

abbrev pub AllStandForThemselves : List ℕ → Type 0
AllStandForThemselves [] = ⊤
AllStandForThemselves (c ∷ r) = StandsForItself c × AllStandForThemselves r
