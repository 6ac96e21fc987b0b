use Rattle.office_memory.proofs.Names.{◌≡◌, filter, map}
use Rattle.office_memory.proofs.group_index.GroupIndex.searched.Given as goal

abbrev pub invariant-loop-boxed : goal.invariant-loop-boxed
invariant-loop-boxed g l =
    map (λ row. row.now) l.found.items ≡ filter (λ r. g.N.Group.PartialEq.eq (g.N.Grouping.group_of r) l.group) (map (λ r. r.now) l.yielded)
