use Rattle.office_desk.proofs.Names.{◌≡◌, ◌+◌, drop, map, ReleaseRow, are_from}
use Rattle.office_desk.proofs.queries.packages.texts.are_numbered.Given as goal

-- the numbers from here on are tested, and those before were right
abbrev pub invariant-loop-row : goal.invariant-loop-row
invariant-loop-row l = (l.next ≡ l.row-index + 1) × (are_from l.next (map (λ (r : ReleaseRow). r.seq) (drop l.row-index l.rows)) ≡ are_from 1 (map (λ (r : ReleaseRow). r.seq) l.rows))
