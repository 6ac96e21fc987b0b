use Rattle.office_memory.proofs.Names.{◌≡◌, ◌++◌, map, sums_under, tables_of}
use Rattle.office_memory.proofs.sums.sums_under.Given as goal

-- the sums so far and those of the remaining lots are the sums of all lots
abbrev pub invariant-loop-lot : goal.invariant-loop-lot
invariant-loop-lot l =
    l.sums.items ++ sums_under (tables_of l.tables) (map (λ r. r.now) l.lot-iterator.rest.items) ≡ sums_under (tables_of l.tables) (map (λ r. r.now) l.fn.lots.items)
