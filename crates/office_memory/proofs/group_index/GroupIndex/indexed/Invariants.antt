use Rattle.office_memory.proofs.Names.{◌≡◌, ◌++◌, filter, map, filter_map, row_at}
use Rattle.office_memory.proofs.group_index.GroupIndex.indexed.Given as goal

-- the found rows and those at the remaining keys are the rows of the group
abbrev pub invariant-loop-key : goal.invariant-loop-key
invariant-loop-key g l =
    map (λ row. row.now) l.found.items
    ++ filter (λ r. g.N.Group.PartialEq.eq (g.N.Grouping.group_of r) l.group) (filter_map (row_at g.R.Key.Ord.cmp g.R.Row.key_of l.rows) l.key-iterator)
    ≡ filter (λ r. g.N.Group.PartialEq.eq (g.N.Grouping.group_of r) l.group) l.rows
