-- The dates of the worked examples, computed.
use Rattle.office_machine.proofs.Names.{refl, year_after, month_after, moment_text, DatesWorked}

pub dates_worked : DatesWorked
unfolding moment_text year_after month_after
dates_worked = record {
  january_is = refl;
  published_is = refl;
  february_is = refl;
  deadline_is = refl;
  decided_is = refl;
  next_day_is = refl;
  standstill_end_is = refl;
  second_end_is = refl;
  expiry_is = refl;
  standstill_is = refl;
  second_standstill_is = refl;
  validity_is = refl;
}
