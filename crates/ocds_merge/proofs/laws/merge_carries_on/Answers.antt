use Rattle.ocds_merge.proofs.Settled.{settled, one_more}
use Rattle.ocds_merge.proofs.laws.merge_carries_on.Goals as goal

pub returns-clause-alone : goal.returns-clause-alone
returns-clause-alone c = settled

pub returns-clause-one_more : goal.returns-clause-one_more
returns-clause-one_more c = one_more
