-- The kinds of entries of a contract: raises, cuts and payments.
use Rattle.std.specs.Prelude.{Bool, true, false}
use Rattle.office_base.specs.declared.records.EntryKind.{EntryKind}
use Rattle.office_base.specs.declared.records.EntryKind.TheVariants.{Raise, Cut, Payment}

abbrev pub is_raise : EntryKind → Bool
is_raise Raise = true
is_raise Cut = false
is_raise Payment = false

abbrev pub is_payment : EntryKind → Bool
is_payment Raise = false
is_payment Cut = false
is_payment Payment = true

-- whether an entry lessens the outstanding amount: a cut or a payment
abbrev pub is_less : EntryKind → Bool
is_less Raise = false
is_less Cut = true
is_less Payment = true
