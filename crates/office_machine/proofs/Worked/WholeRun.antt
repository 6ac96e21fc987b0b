-- A whole procurement, computed.
use Rattle.office_machine.proofs.Names.{[], refl, row_at, row_put, row_drop, no_tables, AreRequests, means, WholeRunWorked, run}
use Rattle.office_machine.proofs.Reached.{runs_reach}

can_be_given : AreRequests means no_tables run
unfolding row_at row_put row_drop
can_be_given = search tt

pub whole_run_worked : WholeRunWorked
unfolding row_at row_put row_drop
whole_run_worked = record {
  preparation_is_told = refl;
  competition_is_told = refl;
  decision_is_told = refl;
  execution_is_told = refl;
  pots_reserved = refl;
  pots_contracted = refl;
  pots_at_last = refl;
  moves_are = refl;
  came_to_free = refl;
  went_from_free = refl;
  fates_of_tenders = refl;
  fates_of_securities = refl;
  states_at_last = refl;
  can_be_given = can_be_given;
  is_reached = runs_reach means [] no_tables refl run can_be_given;
}
