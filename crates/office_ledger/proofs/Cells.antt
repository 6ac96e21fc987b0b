-- Columns of joined rows: nothing is equal to NULL.
use Rattle.office_ledger.proofs.Names.{◌≡◌, ℕ, pos, false, List, refl, Null, Int, Binary, binary, equal}
use Rattle.sqlite_value.specs.declared.value.Value.TheVariants.{Text}

pub text_null : (a : List ℕ) → equal Binary (Text a) Null ≡ false
unfolding binary
text_null a = refl

pub number_null : (a : ℕ) → equal Binary (Int (pos a)) Null ≡ false
unfolding binary
number_null a = refl
