use Rattle.office_memory.proofs.Names.{◌≡◌, map, take}
use Rattle.office_memory.proofs.sums.reserved_by.Given as goal

abbrev pub invariant-loop-lot : goal.invariant-loop-lot
invariant-loop-lot l = l.amounts.items ≡ map (λ lot. lot.now.reserved) (take l.lot-index l.lots)
