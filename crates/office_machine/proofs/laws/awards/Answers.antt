use Rattle.office_machine.proofs.AwardsMade.{awards_were_shown}
use Rattle.office_machine.proofs.AwardsShown.{winners_shown}
use Rattle.office_machine.proofs.laws.awards.Goals as goal

pub returns-clause-winners : goal.returns-clause-winners
returns-clause-winners c = winners_shown

pub returns-clause-made : goal.returns-clause-made
returns-clause-made c = awards_were_shown
