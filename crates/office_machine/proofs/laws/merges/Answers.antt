use Rattle.office_machine.proofs.Releases.MergesApart.{fates_apart, looks_apart, next_apart, puts_apart, refusals_apart, replies_apart}
use Rattle.office_machine.proofs.laws.merges.Goals as goal

pub returns-clause-refusals : goal.returns-clause-refusals
returns-clause-refusals c = refusals_apart

pub returns-clause-replies : goal.returns-clause-replies
returns-clause-replies c = replies_apart

pub returns-clause-looks : goal.returns-clause-looks
returns-clause-looks c = looks_apart

pub returns-clause-puts : goal.returns-clause-puts
returns-clause-puts c = puts_apart

pub returns-clause-next : goal.returns-clause-next
returns-clause-next c = next_apart

pub returns-clause-fates : goal.returns-clause-fates
returns-clause-fates c = fates_apart
