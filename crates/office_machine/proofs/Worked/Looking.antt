-- Worked examples of queries, computed.
use Rattle.office_machine.proofs.Names.{refl, row_at, row_put, row_drop, LookingWorked}

pub looking_worked : LookingWorked
unfolding row_at row_put row_drop
looking_worked = record {
  own_tender = refl;
  others_tender = refl;
  no_such_tender = refl;
  security_is_held = refl;
  others_security = refl;
  register_is_seen = refl;
  register_is_the_clerks = refl;
  no_minutes_yet = refl;
  packages_are_seen = refl;
}
