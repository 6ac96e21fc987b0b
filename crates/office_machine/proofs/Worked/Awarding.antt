-- Worked examples of awarding, computed.
use Rattle.office_machine.proofs.Names.{refl, row_at, row_put, row_drop, AwardingWorked}

pub awarding_worked : AwardingWorked
unfolding row_at row_put row_drop
awarding_worked = record {
  lowest_price_wins = refl;
  price_is_reserved = refl;
  tie_goes_to_first = refl;
  corrected_price_counts = refl;
  quality_outweighs = refl;
  dearer_is_reserved = refl;
  price_outweighs = refl;
  points_are_equal = refl;
  for_nothing = refl;
  takes_what_is_free = refl;
  all_is_reserved = refl;
  one_unit_short = refl;
  estimate_stays = refl;
  nobody_wins = refl;
  all_is_free = refl;
  lot_is_unsuccessful = refl;
  not_before_opening = refl;
  not_all_examined = refl;
  at_last_second = refl;
  expired = refl;
  nobody_wins_later = refl;
  not_twice = refl;
  no_such_lot = refl;
  award_is = refl;
}
