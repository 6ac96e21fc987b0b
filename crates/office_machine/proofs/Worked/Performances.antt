-- Worked examples of performance securities, computed.
use Rattle.office_machine.proofs.Names.{refl, row_at, row_put, row_drop, PerformancesWorked}

pub performances_worked : PerformancesWorked
unfolding row_at row_put row_drop
performances_worked = record {
  is_asked = refl;
  row_is = refl;
  returned = refl;
  forfeited = refl;
  ended_once = refl;
  isnt_asked = refl;
  none_there = refl;
  moves_nothing = refl;
  held_fate = refl;
  forfeited_fate = refl;
  no_fate = refl;
}
