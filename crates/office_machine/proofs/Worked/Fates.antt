-- Worked examples of fates, computed.
use Rattle.office_machine.proofs.Names.{refl, row_at, row_put, row_drop, FatesWorked}

pub fates_worked : FatesWorked
unfolding row_at row_put row_drop
fates_worked = record {
  competition_is_told = refl;
  fates_of_tenders = refl;
  fates_of_securities = refl;
  rows_of_tenders = refl;
  rows_of_securities = refl;
  cancellation_is_told = refl;
  returned_by_it = refl;
  security_returned_by_it = refl;
}
