use Rattle.ocds_release.proofs.Names.{refl, digits, serde_json_on_literals, moment_text, year_after, month_after}
use Rattle.ocds_release.proofs.examples.worked_contract_releases.Goals as goal

pub returns-clause-signed : goal.returns-clause-signed
unfolding serde_json_on_literals digits moment_text year_after month_after
returns-clause-signed c = refl

pub returns-clause-raised : goal.returns-clause-raised
unfolding serde_json_on_literals digits moment_text year_after month_after
returns-clause-raised c = refl

pub returns-clause-paid : goal.returns-clause-paid
unfolding serde_json_on_literals digits moment_text year_after month_after
returns-clause-paid c = refl

pub returns-clause-ended : goal.returns-clause-ended
unfolding serde_json_on_literals digits moment_text year_after month_after
returns-clause-ended c = refl
