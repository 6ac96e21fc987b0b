-- Worked examples of refusals, computed.
use Rattle.office_machine.proofs.Names.{refl, row_at, row_put, row_drop, RefusingWorked}

pub refusing_worked : RefusingWorked
unfolding row_at row_put row_drop
refusing_worked = record {
  no_memory = refl;
  nothing_is_kept = refl;
  refusals_are = refl;
  refusals_change_nothing = refl;
  sights_change_nothing = refl;
  accepted_are_none = refl;
  february_comes_still = refl;
  late_moment_counts = refl;
  quality_comes_first = refl;
  lot_is_missed_first = refl;
  name_comes_before_deadline = refl;
  deadline_comes_before_funds = refl;
  owner_comes_before_deadline = refl;
  deadline_comes_before_state = refl;
  cancelled_comes_before_early = refl;
  expiry_comes_before_standstill = refl;
  presented_comes_before_security = refl;
}
