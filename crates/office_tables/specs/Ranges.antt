-- The ranges of the fields of records. The CHECKs of the tables have the same numbers.
use Rattle.std.specs.Prelude.{ℕ, ◌≤◌, ◌^◌, Option, IfSome}
use Rattle.office_values.specs.Money.{amount_limit, total_limit}
use Rattle.office_base.specs.declared.reading.Reading.{Reading}
use Rattle.office_tables.specs.Readings.{stated_price, corrected_price, count_of_corrections}

-- the condition that everything fulfils
abbrev pub Anything : {X : Type 0} → X → Type 0
Anything x = Unit {0}

-- a number within bounds
abbrev pub IsWithin : ℕ → ℕ → ℕ → Type 0
IsWithin least most n = (least ≤ n) × (n ≤ most)

-- a number that the office has given: 1 to 10^9
abbrev pub IsOfficeNumber : ℕ → Type 0
IsOfficeNumber n = IsWithin 1 (10 ^ 9) n

-- an amount of money that isn't 0
abbrev pub IsSum : ℕ → Type 0
IsSum n = IsWithin 1 (10 ^ 12) n

-- The prices and the count of corrections of a reading are in their ranges. The count is at most 2^63 - 1, the largest number of SQL.
abbrev pub ReadingFits : Option Reading → Type 0
ReadingFits r =
    IfSome (stated_price r) (λ stated. stated ≤ total_limit) × IfSome (corrected_price r) (λ corrected. corrected ≤ amount_limit)
    × IfSome (count_of_corrections r) (λ corrections. corrections ≤ 9223372036854775807)
