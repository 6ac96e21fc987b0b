use Rattle.office_memory.proofs.Names.{ap, keys_in}
use Rattle.office_memory.proofs.GroupIndex.{rows_found, no_rows}
use Rattle.office_memory.proofs.group_index.GroupIndex.indexed.Goals as goal

pub returns-in_default : goal.returns-in_default
returns-in_default g c =
    rw c.new.ensures.items
    (no_rows g.met.N.Group.Ord.total g.met.R.Key.Ord.total g.N.Grouping.group_of g.R.Row.key_of g.N.Group.PartialEq.eq g.met.N.Group.Ord.matches_eq
    c.args.group.now c.args.rows.now c.args.self.now.keys c.requires (ap keys_in c.in_default.ensures.value) c.keys_rise.ensures)

pub loop-key-init : goal.loop-key-init
loop-key-init g c =
    rw (c.in_ok-found.ensures.items, c.into_iter-key-iterator.ensures.into_iter_gives.0)
    (rows_found g.met.N.Group.Ord.total g.met.R.Key.Ord.total g.N.Grouping.group_of g.R.Row.key_of g.N.Group.PartialEq.eq g.met.N.Group.Ord.matches_eq
    c.args.group.now c.args.rows.now c.args.self.now.keys c.in-Some.keys.now.keys c.requires (ap keys_in c.in-Some.ensures.value)
    c.into_iter-key-iterator.ensures.into_iter_gives.4 c.keys_rise.ensures)
