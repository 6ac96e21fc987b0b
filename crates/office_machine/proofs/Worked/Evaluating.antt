-- Worked examples of evaluations, computed.
use Rattle.office_machine.proofs.Names.{refl, row_at, row_put, row_drop, EvaluatingWorked}

pub evaluating_worked : EvaluatingWorked
unfolding row_at row_put row_drop
evaluating_worked = record {
  not_yet = refl;
  never = refl;
  clerk_sees_all = refl;
  clerk_sees_points = refl;
  confidential = refl;
  awarded_for_all = refl;
  failed_for_all = refl;
  without_points = refl;
  cancelled = refl;
  lot_by_lot = refl;
  withdrawn_late = refl;
}
