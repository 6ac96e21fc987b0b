-- The price of a tender, as its opening read it.
use Rattle.std.specs.Prelude.{ℕ, Bool, true, false, Option, Some, None}
use Rattle.office_base.specs.declared.reading.Reading.{Reading}
use Rattle.office_base.specs.declared.reading.Reading.TheVariants.{Unreadable, Nonconforming, Priced}

-- whether a tender was opened and offers a price for the items of its lot
abbrev pub is_priced : Option Reading → Bool
is_priced None = false
is_priced (Some Unreadable) = false
is_priced (Some Nonconforming) = false
is_priced (Some (Priced stated corrected corrections)) = true

-- the corrected price of a tender; 0 if it has none
abbrev pub price_in : Option Reading → ℕ
price_in None = 0
price_in (Some Unreadable) = 0
price_in (Some Nonconforming) = 0
price_in (Some (Priced stated corrected corrections)) = corrected
