use Rattle.office_base.proofs.Looked.{keeps_then}
use Rattle.office_base.proofs.laws.looks_follow.Goals as goal

pub returns : goal.returns
returns g c = keeps_then g.H.Lookups.meaning
