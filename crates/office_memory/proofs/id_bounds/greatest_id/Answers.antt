use Rattle.office_memory.proofs.Names.{greatest}
use Rattle.office_memory.proofs.IdBounds.{greatest_is_id}
use Rattle.office_memory.proofs.id_bounds.greatest_id.Goals as goal

pub unreachable-requires : goal.unreachable-requires
unfolding greatest
unreachable-requires c = c.in_default.ensures.none greatest_is_id

pub returns : goal.returns
unfolding greatest
returns c = c.in-Some.ensures.found
