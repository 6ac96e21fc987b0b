use Rattle.office_memory.proofs.GroupIndex.{indexed_with, ready_for}
use Rattle.office_memory.proofs.group_index.GroupIndexIndexes.add_row.Goals as goal

pub returns-clause-put : goal.returns-clause-put
returns-clause-put g c =
    ready_for g.met.N.Group.Ord.total g.met.R.Key.Ord.total g.N.Grouping.group_of g.R.Row.key_of c.args.row.now c.args.self.now.keys c.add.new.self.keys
    c.args.self.now.is_whole c.add.new.self.is_whole c.add.result (rw (c.group.ensures, c.key.ensures) at c.add.ensures.has) c.add.ensures.kept c.add.ensures.whole

pub returns-clause-kept : goal.returns-clause-kept
returns-clause-kept g c rows h =
    indexed_with g.met.N.Group.Ord.total g.met.R.Key.Ord.total g.N.Grouping.group_of g.R.Row.key_of rows c.args.self.now.keys c.add.new.self.keys
    c.args.self.now.is_whole c.add.new.self.is_whole h c.add.ensures.kept c.add.ensures.whole
