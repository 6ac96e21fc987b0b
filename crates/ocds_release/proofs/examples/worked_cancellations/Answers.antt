use Rattle.ocds_release.proofs.Names.{refl, digits, serde_json_on_literals, moment_text, year_after, month_after}
use Rattle.ocds_release.proofs.examples.worked_cancellations.Goals as goal

pub returns-clause-cancelled : goal.returns-clause-cancelled
unfolding serde_json_on_literals digits moment_text year_after month_after
returns-clause-cancelled c = refl

pub returns-clause-cancelled_with_award : goal.returns-clause-cancelled_with_award
unfolding serde_json_on_literals digits moment_text year_after month_after
returns-clause-cancelled_with_award c = refl
