use Rattle.ocds_release.proofs.Names.{◌≡◌, map, take, state_with}
use Rattle.ocds_release.proofs.tender_status.states_with.Given as goal

abbrev pub invariant-loop-row : goal.invariant-loop-row
invariant-loop-row l = l.states.items ≡ map (state_with l.lot l.state) (take l.row-index l.lots)
