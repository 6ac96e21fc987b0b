-- Worked examples of examining, computed.
use Rattle.office_machine.proofs.Names.{refl, row_at, row_put, row_drop, ExaminingWorked}

pub examining_worked : ExaminingWorked
unfolding row_at row_put row_drop
examining_worked = record {
  is_examined = refl;
  found_wanting = refl;
  unreadable = refl;
  not_opened = refl;
  late_is_not_opened = refl;
  no_such_tender = refl;
  no_quality_for_price = refl;
  quality_is_bounded = refl;
  quality_is_wanted = refl;
  not_once_cancelled = refl;
}
