use Rattle.ocds_merge.proofs.Names.{refl, digits, serde_json_on_literals}
use Rattle.ocds_merge.proofs.examples.worked_compilations.Goals as goal

pub returns-clause-order : goal.returns-clause-order
unfolding serde_json_on_literals digits
returns-clause-order c = refl

pub returns-clause-body : goal.returns-clause-body
unfolding serde_json_on_literals digits
returns-clause-body c = refl

pub returns-clause-head : goal.returns-clause-head
unfolding serde_json_on_literals digits
returns-clause-head c = refl

pub returns-clause-compiled : goal.returns-clause-compiled
unfolding serde_json_on_literals digits
returns-clause-compiled c = refl
