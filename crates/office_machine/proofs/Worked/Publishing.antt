-- Worked examples of publishing, computed.
use Rattle.office_machine.proofs.Names.{refl, row_at, row_put, row_drop, PublishingWorked}

pub publishing_worked : PublishingWorked
unfolding row_at row_put row_drop
publishing_worked = record {
  two_lots_are_published = refl;
  all_is_reserved = refl;
  one_unit_more_is_refused = refl;
  all_stays_free = refl;
  no_lot_is_kept = refl;
  each_from_its_line = refl;
  deadline_is_to_come = refl;
  unknown_line = refl;
  not_twice = refl;
  twenty_lots = refl;
  twenty_are_reserved = refl;
  twenty_one_lots = refl;
  fifty_items = refl;
  fifty_one_items = refl;
  notice_is = refl;
  lot_is = refl;
  release_is = refl;
}
