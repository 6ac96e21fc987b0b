use Rattle.tender_papers.proofs.Names.{◌≡◌, ◌++◌, take, flat_map, lot_lines, minutes_head}
use Rattle.tender_papers.proofs.minutes.minutes_text.Given as goal

abbrev pub invariant-loop-lot : goal.invariant-loop-lot
invariant-loop-lot l = l.lines ≡ minutes_head l.fn.notice l.fn.opened ++ flat_map (lot_lines l.tenders) (take l.lot-index l.lots)
