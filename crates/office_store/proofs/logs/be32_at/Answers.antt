use Rattle.office_store.proofs.Names.{refl, be32}
use Rattle.office_store.proofs.logs.be32_at.Goals as goal

pub returns : goal.returns
unfolding be32
returns c = refl
