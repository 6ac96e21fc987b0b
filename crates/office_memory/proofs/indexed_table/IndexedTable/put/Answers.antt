use Rattle.office_memory.proofs.GroupIndex.{put_or_not}
use Rattle.office_memory.proofs.indexed_table.IndexedTable.put.Goals as goal

pub invariant_of-self-2 : goal.invariant_of-self-2
invariant_of-self-2 g c =
    put_or_not g.R.Key.Ord.cmp g.R.Row.key_of (λ rows. g.I.Indexes.covers c.add_row.new.self rows) c.args.row c.self.inside.rows c.put.new.self c.put.result
    c.put.ensures.rows c.put.ensures.kept (c.in_ok-add_row.ensures.put c.self.inside.rows c.self.invariant) (c.add_row.ensures.kept c.self.inside.rows c.self.invariant)

pub invariant_of-self : goal.invariant_of-self
invariant_of-self g c = c.add_row.ensures.kept c.self.inside.rows c.self.invariant
