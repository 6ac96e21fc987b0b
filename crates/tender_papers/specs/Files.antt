-- CSV files (RFC 4180), as the crate `csv` reads them.
use Rattle.std.specs.Prelude.{ℕ, List, [], ◌∷◌, Bool, false, ◌&&◌, nat_eq, Option, Some, None}
use Rattle.std.specs.Option.{option_map_or}
use Rattle.std.specs.Cmp.Lexicographic.{pointwise}
use Rattle.csv.specs.Reading.{records, default_config, strip_bom}

-- the records of a file, each a list of fields; one byte order mark at the beginning of the file is dropped
abbrev pub csv_records : List ℕ → List (List (List ℕ))
csv_records text = records default_config (strip_bom text)

-- the four fields of a record
abbrev pub Four : Type 0
Four = List ℕ × List ℕ × List ℕ × List ℕ

-- the fields of a record, if there are exactly four
abbrev pub four_of : List (List ℕ) → Option Four
four_of [] = None
four_of (a ∷ []) = None
four_of (a ∷ b ∷ []) = None
four_of (a ∷ b ∷ c ∷ []) = None
four_of (a ∷ b ∷ c ∷ d ∷ []) = Some (a, b, c, d)
four_of (a ∷ b ∷ c ∷ d ∷ e ∷ rest) = None

-- whether a field is a given word
abbrev pub is_word : List ℕ → List ℕ → Bool
is_word word field = pointwise nat_eq field word

-- whether four fields are four given words
abbrev pub are_words : Four → Four → Bool
are_words (a, b, c, d) (p, q, r, s) = is_word a p && is_word b q && is_word c r && is_word d s

-- whether a record has exactly four fields, and they are four given words
abbrev pub says : Four → List (List ℕ) → Bool
says words fields = option_map_or (are_words words) (four_of fields) false

-- the elements of a list without the last one
unfoldable pub but_last : {X : Type 0} → List X → List X
but_last [] = []
but_last (x ∷ []) = []
but_last (x ∷ y ∷ rest) = x ∷ but_last (y ∷ rest)

-- the last element of a list, if there is one
unfoldable pub last_of : {X : Type 0} → List X → Option X
last_of [] = None
last_of (x ∷ []) = Some x
last_of (x ∷ y ∷ rest) = last_of (y ∷ rest)
