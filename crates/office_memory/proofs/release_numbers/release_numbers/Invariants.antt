use Rattle.office_memory.proofs.Names.{◌≡◌, ◌++◌, filter, map, values_of, same_id, ReleaseRow}
use Rattle.office_memory.proofs.release_numbers.release_numbers.Given as goal

-- the numbers so far and those of the remaining releases are the numbers of all releases of the notice
abbrev pub invariant-loop-row : goal.invariant-loop-row
invariant-loop-row l =
    l.numbers.items ++ map (λ (r : ReleaseRow). r.seq) (values_of l.row-iterator) ≡ map (λ (r : ReleaseRow). r.seq) (filter (λ (r : ReleaseRow). same_id r.notice l.notice) l.releases)
