use Rattle.tender_core.proofs.Names.{◌≡◌, ◌+◌, ◌*◌, ◌≤◌, ◌^◌, drop, filter, is_open_lot, freed}
use Rattle.tender_core.proofs.ended.freed.Given as goal

abbrev pub invariant-loop-row : goal.invariant-loop-row
invariant-loop-row l =
    (l.sum + freed l.line (filter is_open_lot (drop l.row-index l.lots)) ≡ freed l.line (filter is_open_lot l.lots))
    × (l.sum ≤ l.row-index * 10 ^ 12)
