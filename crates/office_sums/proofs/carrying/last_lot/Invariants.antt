use Rattle.office_sums.proofs.Names.{◌≡◌, option_map, drop, either_row, last_lot}
use Rattle.office_sums.proofs.carrying.last_lot.Given as goal

-- the last of the remaining lots, or else the one that was found
abbrev pub invariant-loop-put : goal.invariant-loop-put
invariant-loop-put l = either_row (last_lot (l.notice, l.lot) (drop l.put-index l.puts)) (option_map (λ row. row.now) l.last) ≡ last_lot (l.notice, l.lot) l.puts
