use Rattle.office_machine.proofs.Accounts.Outstanding.{left_is_known, left_is_booked}
use Rattle.office_machine.proofs.laws.outstanding.Goals as goal

pub returns-clause-known : goal.returns-clause-known
returns-clause-known c = left_is_known

pub returns-clause-booked : goal.returns-clause-booked
returns-clause-booked c = left_is_booked
