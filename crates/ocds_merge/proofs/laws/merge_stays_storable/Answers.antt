use Rattle.ocds_merge.proofs.StorableLaw.{merge_storable, body_storable}
use Rattle.ocds_merge.proofs.laws.merge_stays_storable.Goals as goal

pub returns-clause-merge : goal.returns-clause-merge
returns-clause-merge c = merge_storable

pub returns-clause-body : goal.returns-clause-body
returns-clause-body c = body_storable
