use Rattle.office_memory.proofs.GroupIndex.{indexed_again, indexed_after_drop}
use Rattle.office_memory.proofs.group_index.GroupIndexIndexes.go_back.Goals as goal

pub returns-in-Some : goal.returns-in-Some
returns-in-Some g c rows h =
    rw (c.in-Some.is)
    (rw (c.get-row.ensures) at (indexed_again g.met.N.Group.Ord.total g.met.R.Key.Ord.total g.N.Grouping.group_of g.R.Row.key_of c.get-row.result.now rows
    c.args.self.now.keys c.keep_whole.new.self.keys c.args.self.now.is_whole c.keep_whole.new.self.is_whole h c.keep_whole.ensures.keys
    (rw (c.group.ensures, c.key.ensures) at c.keep_whole.ensures.whole)))

pub returns-in-None : goal.returns-in-None
returns-in-None g c rows h =
    rw (c.in-None.is)
    (indexed_after_drop g.met.N.Group.Ord.total g.met.R.Key.Ord.total g.N.Grouping.group_of g.R.Row.key_of c.args.replaced.now.key rows c.args.self.now.keys
    c.args.self.now.is_whole h)
