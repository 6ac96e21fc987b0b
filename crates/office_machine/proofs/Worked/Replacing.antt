-- Worked examples of replacing and withdrawing sealed tenders, computed.
use Rattle.office_machine.proofs.Names.{refl, row_at, row_put, row_drop, ReplacingWorked}

pub replacing_worked : ReplacingWorked
unfolding row_at row_put row_drop
replacing_worked = record {
  has_new_receipt = refl;
  old_is_withdrawn = refl;
  new_bytes_are_kept = refl;
  security_is_held = refl;
  is_withdrawn = refl;
  both_are_withdrawn = refl;
  no_bytes_are_kept = refl;
  security_is_returned = refl;
  withdrawn_once = refl;
  at_last_second = refl;
  not_at_deadline = refl;
  moment_runs_back = refl;
  not_anothers = refl;
  no_such_tender = refl;
  receipts_are_bounded = refl;
}
