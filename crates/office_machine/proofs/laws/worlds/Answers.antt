use Rattle.office_machine.proofs.Worlds.WorldsSealed.{steps_stay}
use Rattle.office_machine.proofs.laws.worlds.Goals as goal

pub returns : goal.returns
returns c = steps_stay
