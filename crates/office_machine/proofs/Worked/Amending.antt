-- Worked examples of amending, computed.
use Rattle.office_machine.proofs.Names.{refl, row_at, row_put, row_drop, AmendingWorked}

pub amending_worked : AmendingWorked
unfolding row_at row_put row_drop
amending_worked = record {
  moves_later = refl;
  notice_is = refl;
  stays = refl;
  not_earlier = refl;
  at_last_second = refl;
  not_at_deadline = refl;
  late_is_in_time = refl;
  tender_is_sealed = refl;
  no_such_notice = refl;
  not_once_cancelled = refl;
  fiftieth_amendment = refl;
  amendments_are_bounded = refl;
  releases_are_bounded = refl;
}
