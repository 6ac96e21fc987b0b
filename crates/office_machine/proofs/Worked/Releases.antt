-- Worked examples of releases, computed.
use Rattle.office_machine.proofs.Names.{refl, row_at, row_put, row_drop, ReleasesWorked}

pub releases_worked : ReleasesWorked
unfolding row_at row_put row_drop
releases_worked = record {
  four_releases = refl;
  are_counted = refl;
  counted_on = refl;
  payment_is_counted = refl;
  failing_is_counted = refl;
  at_moments = refl;
  never_fall = refl;
  clock_stands = refl;
  no_more_of_notice = refl;
  no_award = refl;
  no_signing = refl;
  no_more_of_contract = refl;
  tenders_come = refl;
  last_one = refl;
}
