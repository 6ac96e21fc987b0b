-- Worked examples of opening, computed.
use Rattle.office_machine.proofs.Names.{refl, row_at, row_put, row_drop, OpeningWorked}

pub opening_worked : OpeningWorked
unfolding row_at row_put row_drop
opening_worked = record {
  too_early = refl;
  at_deadline = refl;
  without_tenders = refl;
  no_such_notice = refl;
  not_once_cancelled = refl;
  minutes_are_seen = refl;
  one_is_opened = refl;
  others_stay = refl;
  other_notice_stays = refl;
  bytes_are_kept = refl;
  readings_are = refl;
  release_is = refl;
}
