-- The moment that a text writes, computed from its digits.
use Rattle.std.specs.Prelude.{◌≡◌, ℕ, zero, suc, ◌+◌, ◌-◌, ◌*◌, ◌&&◌, List, nat_le, nat_eq, slice_index, if◌then◌else◌, pos, Option, Some, None}
use Rattle.std.specs.Cmp.Lexicographic.{pointwise}
use Rattle.jiff_core.specs.Calendar.{days_in_year, days_in_month}
use Rattle.office_values.specs.Moments.{last_moment, moment_text, IsMomentText}

-- The number of days in this many years from 1970 on.
unfoldable pub days_to_year : ℕ → ℕ
days_to_year zero = 0
days_to_year (suc n) = days_to_year n + days_in_year (pos (1970 + n))

-- The number of days in this many months of a year, from January on.
unfoldable pub days_to_month : ℕ → ℕ → ℕ
days_to_month year zero = 0
days_to_month year (suc n) = days_to_month year n + days_in_month (pos year) (suc n)

-- The number of a date's day; 1970-01-01 is day 0.
abbrev pub day_number : ℕ → ℕ → ℕ → ℕ
day_number year month day = days_to_year (year - 1970) + days_to_month year (month - 1) + (day - 1)

-- The number that two digits at a place write.
abbrev pub two_at : List ℕ → ℕ → ℕ
two_at text i = (slice_index text i - 48) * 10 + (slice_index text (i + 1) - 48)

-- The second that the digits of YYYY-MM-DDTHH:MM:SSZ name.
unfoldable pub second_named : List ℕ → ℕ
second_named text =
    day_number (two_at text 0 * 100 + two_at text 2) (two_at text 5) (two_at text 8) * 86400
    + two_at text 11 * 3600 + two_at text 14 * 60 + two_at text 17

-- The moment, if the text is its own.
abbrev pub moment_if : ℕ → List ℕ → Option ℕ
moment_if second text = if nat_le second last_moment && pointwise nat_eq (moment_text second) text then Some second else None

-- The moment that a text writes, if it is the text of one.
unfoldable pub moment_of : List ℕ → Option ℕ
moment_of text = moment_if (second_named text) text

-- The law: each moment is read from its own text, and from no other.
pub record MomentsAreTheirTexts : Type 0 where
  pub known : (second : ℕ) (text : List ℕ) → IsMomentText second text → moment_of text ≡ Some second
  pub only : (second : ℕ) (text : List ℕ) → moment_of text ≡ Some second → IsMomentText second text
