-- Worked examples of tender securities, computed.
use Rattle.office_machine.proofs.Names.{refl, row_at, row_put, row_drop, SecuritiesWorked}

pub securities_worked : SecuritiesWorked
unfolding row_at row_put row_drop
securities_worked = record {
  is_missing = refl;
  is_too_small = refl;
  is_enough = refl;
  is_more = refl;
  is_not_asked = refl;
  late_without = refl;
  late_is_returned = refl;
  row_is = refl;
  held_after_award = refl;
  returned_at_signing = refl;
  forfeited = refl;
  stays_forfeited = refl;
  stays_forfeited_at_signing = refl;
  other_lot_is_held = refl;
  returned_to_all = refl;
  withdrawn_in_time = refl;
  withdrawn_too_late = refl;
}
