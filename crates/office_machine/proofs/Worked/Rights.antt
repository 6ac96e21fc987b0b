-- Worked examples of rights, computed.
use Rattle.office_machine.proofs.Names.{refl, row_at, row_put, row_drop, RightsWorked}

pub rights_worked : RightsWorked
unfolding row_at row_put row_drop
rights_worked = record {
  public_commands_nothing = refl;
  tenderer_is_no_clerk = refl;
  clerk_is_no_tenderer = refl;
  nothing_is_told = refl;
}
