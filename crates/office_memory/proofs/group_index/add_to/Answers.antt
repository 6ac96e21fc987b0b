use Rattle.office_memory.proofs.Names.{◌∙◌, is_at, contains}
use Rattle.office_memory.proofs.GroupIndex.{contains_more}
use Rattle.office_memory.proofs.group_index.add_to.Goals as goal

pub returns-clause-kept : goal.returns-clause-kept
returns-clause-kept g c k h =
    c.in_ok-insert.ensures.updates.0 k ∙ contains_more (is_at (g.K.Ord.cmp c.args.key) k) (contains g.K.Ord.cmp c.args.keys.now k) h
