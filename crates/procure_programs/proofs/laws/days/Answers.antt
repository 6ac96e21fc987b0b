use Rattle.procure_programs.proofs.OpenedFiles.{days_follow, keys_follow}
use Rattle.procure_programs.proofs.laws.days.Goals as goal

pub returns-clause-one : goal.returns-clause-one
returns-clause-one c = days_follow

pub returns-clause-keys : goal.returns-clause-keys
returns-clause-keys c = keys_follow
