use Rattle.ocds_release.proofs.Names.{refl, digits, serde_json_on_literals, moment_text, year_after, month_after}
use Rattle.ocds_release.proofs.examples.worked_notice_releases.Goals as goal

pub returns-clause-published : goal.returns-clause-published
unfolding serde_json_on_literals digits moment_text year_after month_after
returns-clause-published c = refl

pub returns-clause-amended : goal.returns-clause-amended
unfolding serde_json_on_literals digits moment_text year_after month_after
returns-clause-amended c = refl

pub returns-clause-opened : goal.returns-clause-opened
unfolding serde_json_on_literals digits moment_text year_after month_after
returns-clause-opened c = refl

pub returns-clause-opened_without_tenders : goal.returns-clause-opened_without_tenders
unfolding serde_json_on_literals digits moment_text year_after month_after
returns-clause-opened_without_tenders c = refl

pub returns-clause-awarded : goal.returns-clause-awarded
unfolding serde_json_on_literals digits moment_text year_after month_after
returns-clause-awarded c = refl

pub returns-clause-not_awarded : goal.returns-clause-not_awarded
unfolding serde_json_on_literals digits moment_text year_after month_after
returns-clause-not_awarded c = refl

pub returns-clause-failed : goal.returns-clause-failed
unfolding serde_json_on_literals digits moment_text year_after month_after
returns-clause-failed c = refl
