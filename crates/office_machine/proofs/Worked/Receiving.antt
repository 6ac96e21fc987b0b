-- Worked examples of receiving, computed.
use Rattle.office_machine.proofs.Names.{refl, row_at, row_put, row_drop, ReceivingWorked}

pub receiving_worked : ReceivingWorked
unfolding row_at row_put row_drop
receiving_worked = record {
  is_sealed = refl;
  bytes_are_kept = refl;
  one_each = refl;
  one_for_each_lot = refl;
  at_deadline = refl;
  one_second_late = refl;
  late_bytes_go_back = refl;
  late_security_goes_back = refl;
  late_row_is = refl;
  late_and_sealed = refl;
  after_opening = refl;
  moment_runs_back = refl;
  no_such_notice = refl;
  no_such_lot = refl;
  not_once_cancelled = refl;
  last_receipt = refl;
}
