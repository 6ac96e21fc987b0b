-- Values of SQL, and the numbers, texts and flags that they mean.
use Rattle.std.specs.Prelude.{ℕ, zero, suc, ◌+◌, ℤ, pos, negsuc, Bool, cond, ◌==◌, List, [], ◌∷◌, Option, Some, None, option_map, nat_eq}
use Rattle.std.specs.Cmp.Lexicographic.{pointwise}
use Rattle.sqlite_value.specs.declared.value.Value.{Value}
use Rattle.sqlite_value.specs.declared.value.Value.TheVariants.{Null, Int, Real, Text, Blob}
use Rattle.sqlite_value.specs.Order.{Row, column}

-- a whole number; 0 if it is negative
abbrev pub nat_of : ℤ → ℕ
nat_of (pos n) = n
nat_of (negsuc n) = 0

-- the number that a value is; 0 if it isn't a whole number
abbrev pub number_in_value : Value → ℕ
number_in_value Null = 0
number_in_value (Int z) = nat_of z
number_in_value (Real x) = 0
number_in_value (Text t) = 0
number_in_value (Blob b) = 0

-- a natural number as a value
abbrev pub whole : ℕ → Value
whole n = Int (pos n)

-- a number as a value, or NULL
abbrev pub or_null : Option ℕ → Value
or_null None = Null
or_null (Some n) = Int (pos n)

-- the number that a value is, if it is one
abbrev pub perhaps_in : Value → Option ℕ
perhaps_in Null = None
perhaps_in (Int z) = Some (nat_of z)
perhaps_in (Real x) = None
perhaps_in (Text t) = None
perhaps_in (Blob b) = None

-- a text as a value, or NULL
abbrev pub text_or_null : Option (List ℕ) → Value
text_or_null None = Null
text_or_null (Some t) = Text t

-- the text that a value is, if it is one
abbrev pub perhaps_text_in : Value → Option (List ℕ)
perhaps_text_in Null = None
perhaps_text_in (Int z) = None
perhaps_text_in (Real x) = None
perhaps_text_in (Text t) = Some t
perhaps_text_in (Blob b) = None

-- 1 for yes, 0 for no
abbrev pub as_number : Bool → ℕ
as_number b = cond b 1 0

-- whether a value means yes
abbrev pub truth_in : Value → Bool
truth_in v = number_in_value v == 1

-- what a value means: yes, no, or nothing if it is NULL
abbrev pub perhaps_truth_in : Value → Option Bool
perhaps_truth_in v = option_map (λ n. n == 1) (perhaps_in v)

-- whether two texts are equal
abbrev pub same_text : List ℕ → List ℕ → Bool
same_text = pointwise nat_eq

-- a stored row without its rowid
abbrev pub tail : Row → Row
tail [] = []
tail (v ∷ row) = row

-- `n` columns of a row, from this one on
abbrev pub columns_from : Row → ℕ → ℕ → Row
columns_from r at zero = []
columns_from r at (suc n) = column r at ∷ columns_from r (suc at) n

-- three columns of a row, from this one on
abbrev pub three_from : Row → ℕ → Row
three_from r at = column r at ∷ column r (at + 1) ∷ column r (at + 2) ∷ []
