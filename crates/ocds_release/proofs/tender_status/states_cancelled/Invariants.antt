use Rattle.ocds_release.proofs.Names.{◌≡◌, map, take, state_cancelled}
use Rattle.ocds_release.proofs.tender_status.states_cancelled.Given as goal

abbrev pub invariant-loop-row : goal.invariant-loop-row
invariant-loop-row l = l.states.items ≡ map state_cancelled (take l.row-index l.lots)
