use Rattle.office_machine.proofs.FateLaws.LateRulesKept.{late_rules_kept}
use Rattle.office_machine.proofs.laws.late_withdrawals.Goals as goal

pub returns : goal.returns
returns c = late_rules_kept
