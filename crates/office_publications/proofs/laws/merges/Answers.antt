use Rattle.office_publications.proofs.MergesKept.{merges_stay}
use Rattle.office_publications.proofs.laws.merges.Goals as goal

pub returns : goal.returns
returns c = merges_stay
