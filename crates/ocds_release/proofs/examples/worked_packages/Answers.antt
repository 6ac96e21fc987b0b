use Rattle.ocds_release.proofs.Names.{refl, digits, serde_json_on_literals, moment_text, year_after, month_after}
use Rattle.ocds_release.proofs.examples.worked_packages.Goals as goal

pub returns-clause-first : goal.returns-clause-first
unfolding serde_json_on_literals digits moment_text year_after month_after
returns-clause-first c = refl

pub returns-clause-releases : goal.returns-clause-releases
unfolding serde_json_on_literals digits moment_text year_after month_after
returns-clause-releases c = refl

pub returns-clause-record : goal.returns-clause-record
unfolding serde_json_on_literals digits moment_text year_after month_after
returns-clause-record c = refl
