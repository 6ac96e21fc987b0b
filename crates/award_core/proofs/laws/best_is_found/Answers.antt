use Rattle.award_core.proofs.BestFound.{best_is_found}
use Rattle.award_core.proofs.laws.best_is_found.Goals as goal

pub returns : goal.returns
returns c = best_is_found
