-- Worked examples of signing, computed.
use Rattle.office_machine.proofs.Names.{refl, row_at, row_put, row_drop, SigningWorked}

pub signing_worked : SigningWorked
unfolding row_at row_put row_drop
signing_worked = record {
  stands_still = refl;
  is_signed = refl;
  price_is_contracted = refl;
  contract_is = refl;
  lot_is_contracted = refl;
  signed_once = refl;
  is_failed = refl;
  stays_reserved = refl;
  next_best_wins = refl;
  next_price_is_reserved = refl;
  new_standstill = refl;
  nobody_is_left = refl;
  all_is_free = refl;
  at_last_second = refl;
  expired = refl;
  no_such_award = refl;
}
