-- The reading of a tender as four columns: a word, then the stated price, the corrected price and the count of corrections. The last three are NULL unless
-- the word is `priced`.
use Rattle.std.specs.Prelude.{ℕ, if◌then◌else◌, List, [], ◌∷◌, codes, Option, Some, None, option_map}
use Rattle.sqlite_value.specs.declared.value.Value.{Value}
use Rattle.sqlite_value.specs.Order.{Row, column}
use Rattle.office_base.specs.declared.reading.Reading.{Reading}
use Rattle.office_base.specs.declared.reading.Reading.TheVariants.{Unreadable, Nonconforming, Priced}
use Rattle.office_tables.specs.Values.{same_text, number_in_value, or_null, text_or_null, perhaps_text_in, three_from}

-- the word that a reading is stored as
abbrev pub reading_word : Reading → List ℕ
reading_word Unreadable = codes "unreadable"
reading_word Nonconforming = codes "nonconforming"
reading_word (Priced stated corrected corrections) = codes "priced"

-- the price that the tender states, if it has one
abbrev pub stated_price : Option Reading → Option ℕ
stated_price None = None
stated_price (Some Unreadable) = None
stated_price (Some Nonconforming) = None
stated_price (Some (Priced stated corrected corrections)) = Some stated

-- the price as the office computes it, if the tender has one
abbrev pub corrected_price : Option Reading → Option ℕ
corrected_price None = None
corrected_price (Some Unreadable) = None
corrected_price (Some Nonconforming) = None
corrected_price (Some (Priced stated corrected corrections)) = Some corrected

-- the number of corrections, if the tender has a price
abbrev pub count_of_corrections : Option Reading → Option ℕ
count_of_corrections None = None
count_of_corrections (Some Unreadable) = None
count_of_corrections (Some Nonconforming) = None
count_of_corrections (Some (Priced stated corrected corrections)) = Some corrections

-- a reading as its four columns
abbrev pub reading_cells : Option Reading → Row
reading_cells r = text_or_null (option_map reading_word r) ∷ or_null (stated_price r) ∷ or_null (corrected_price r) ∷ or_null (count_of_corrections r) ∷ []

-- the three columns of the price in a tender's row
abbrev pub price_in : Row → Row
price_in row = three_from row 10

abbrev pub reading_part : Row → Row
reading_part row = column row 9 ∷ price_in row

-- the reading that a word and the three columns after it mean
abbrev pub reading_in_columns : Value → Value → Value → List ℕ → Reading
reading_in_columns stated corrected corrections word =
    if same_text word (codes "unreadable") then Unreadable
    else if same_text word (codes "nonconforming") then Nonconforming
    else Priced (number_in_value stated) (number_in_value corrected) (number_in_value corrections)

-- the reading that four columns mean; none if the word is NULL
abbrev pub reading_in : Value → Value → Value → Value → Option Reading
reading_in word stated corrected corrections = option_map (reading_in_columns stated corrected corrections) (perhaps_text_in word)
