-- Worked examples of registering tenderers, computed.
use Rattle.office_machine.proofs.Names.{refl, row_at, row_put, row_drop, RegisteringWorked}

pub registering_worked : RegisteringWorked
unfolding row_at row_put row_drop
registering_worked = record {
  is_registered = refl;
  not_twice = refl;
  not_as_clerk = refl;
  in_order = refl;
}
