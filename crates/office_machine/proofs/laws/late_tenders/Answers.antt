use Rattle.office_machine.proofs.Terms.InTime.{none_in_time_after}
use Rattle.office_machine.proofs.laws.late_tenders.Goals as goal

pub returns : goal.returns
returns c = none_in_time_after
