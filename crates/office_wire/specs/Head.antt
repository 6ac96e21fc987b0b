-- The beginning of an input: the head of a request (RFC 9112, sections 2 to 5), or the reason why there is none.
use Rattle.std.specs.Prelude.{◌≡◌, ℕ, ◌<◌, ◌≤◌, ◌⊎◌, Bool, true, false, ◌==◌, ◌&&◌, if◌then◌else◌, List, [], ◌∷◌, length, take, map}
use Rattle.std.specs.List.{list_any}
use Rattle.httparse.specs.Grammar.{RequestHead, ReadsRequest, print_request, MayBecomeRequest, NeverHasRequest}
use Rattle.httparse.specs.Spans.{name_and_value}

-- The bytes after the empty lines at the beginning. An empty line is LF or CR LF.
unfoldable pub skip_empty : List ℕ → List ℕ
skip_empty [] = []
skip_empty (a ∷ []) = if a == 10 then [] else a ∷ []
skip_empty (a ∷ b ∷ rest) =
    if a == 10 then skip_empty (b ∷ rest)
    else if (a == 13) && (b == 10) then skip_empty rest
    else a ∷ b ∷ rest

-- The first line that isn't empty ends in these bytes.
abbrev pub first_line_ends : List ℕ → Bool
first_line_ends bytes = list_any (λ b. b == 10) (skip_empty bytes)

-- The input begins with a head of at most 8,192 bytes, with the empty lines before it, and `rest` follows.
pub record StandsHead (input : List ℕ) (h : RequestHead) (rest : List ℕ) : Type 0 where
  pub reads : ReadsRequest input h rest
  pub short : length (print_request h) ≤ 8192

-- The input doesn't begin with such a head.
abbrev pub HasNoHead : List ℕ → Type 0
HasNoHead input = (h : RequestHead) (rest : List ℕ) → ¬ (StandsHead input h rest)

-- At least 8,192 bytes came, and the input has no head in them. They may still become one, or their first line hasn't ended.
pub record IsLongHead (input : List ℕ) : Type 0 where
  pub none : HasNoHead input
  pub come : 8192 ≤ length input
  pub unended : (first_line_ends (take 8192 input) ≡ false) ⊎ MayBecomeRequest (take 8192 input)

-- The input has no head. Either fewer than 8,192 bytes came, or the first line has ended and the grammar rejects the bytes, whatever follows them.
pub record IsBadHead (input : List ℕ) : Type 0 where
  pub none : HasNoHead input
  pub why : (length input < 8192)
      ⊎ ((first_line_ends (take 8192 input) ≡ true) × NeverHasRequest (take 8192 input))

-- The parts of a head. A field is its name and its value, without the white space around it.
pub record HeadView : Type 0 where
  pub method : List ℕ
  pub target : List ℕ
  pub fields : List (List ℕ × List ℕ)

-- The parts of a head of the grammar.
abbrev pub view_of : RequestHead → HeadView
view_of h = record { method = h.method; target = h.target; fields = map name_and_value h.fields }
